-- How many bytes a LEB number has, by its count m of bits: n is below 2 ^ m, and at 2 ^ (m - 1) or above it where m is not 0.
use mathlib.Core.Path.{◌≡◌, refl, ap, ◌∙◌}
use Prim.Native.Nat.{ℕ, zero, suc, ◌+◌, ◌-◌, ◌*◌, ◌/◌, ◌^◌, ◌≤◌, ◌<◌}
use native.Mathlib.Omega.{arith}
use mathlib.Core.Bool.{Bool, false}
use lib.ListN.{length}
use lib.Pow.{pow_mono, pow-add}
use Rattle.format.specs.Leb.{uleb}
use Rattle.format.proofs.Choice.{if-le, if-gt, either}
use Rattle.leb.specs.Groups.{groups_f, groups}
use Rattle.leb.proofs.SevenBits.{unsigned}

-- seven bits less
module _ (m n : ℕ) (lo : 2 ^ m ≤ 2 * n + 1) (hi : n < 2 ^ m) where
  few : (k : ℕ) → 2 * n + 1 < 2 ^ suc k → m ≤ k
  few k h = either m k (λ l. l) (λ g. absurd (omega (arith, pow_mono {i = suc k} {j = m} g)))

  many : (k : ℕ) → 2 ^ k ≤ n → k < m
  many k h = either m k (λ l. absurd (omega (arith, pow_mono {i = m} {j = k} l))) (λ g. g)

  shifted : 7 ≤ m → (2 ^ (m - 7) ≤ 2 * (n / 128) + 1) × (n / 128 < 2 ^ (m - 7))
  shifted l =
      let e : m ≡ m - 7 + 7 = omega arith in
      let a : 2 ^ m ≡ 2 ^ (m - 7) * 128 = ap (λ k. 2 ^ k) e ∙ pow-add 2 (m - 7) 7 in
      (omega arith, omega arith)

-- the last group has k bits at most, seven or six
pub groups_size : (last k : ℕ) → 2 ^ k ≡ last → 2 ^ suc k ≡ 2 * last → 6 ≤ k → k ≤ 7 → (s : Bool) (f m n : ℕ) → 2 ^ m ≤ 2 * n + 1 → n < 2 ^ m → k < 7 + m
    → m ≤ k + 7 * f → length (groups_f last s f n) ≡ (m + (13 - k)) / 7
unfolding groups_f
groups_size last k e e' low high s zero m n lo hi p h = omega arith
groups_size last k e e' low high s (suc f) m n lo hi p h =
    either (suc n) last (λ l. rw (if-le (suc n) last) (omega (arith, few m n lo hi k (omega arith))))
    (λ g. let l = many m n lo hi k (omega arith) in
    let t = shifted m n lo hi (omega arith) in
    rw (if-gt (suc n) last) (omega (arith, groups_size last k e e' low high s f (m - 7) (n / 128) t.0 t.1 (omega arith) (omega arith))))

pub uleb_size : (m n : ℕ) → 2 ^ m ≤ 2 * n + 1 → n < 2 ^ m → 0 < n → m ≤ 64 → length (uleb n) ≡ (m + 6) / 7
unfolding groups
uleb_size m n lo hi p h =
    rw (← unsigned n) (groups_size 128 7 refl refl (omega arith) (omega arith) false 9 m n lo hi (omega (arith, many m n lo hi 0 p)) (omega arith))

pub sleb_size : (s : Bool) (m n : ℕ) → 2 ^ m ≤ 2 * n + 1 → n < 2 ^ m → m ≤ 64 → length (groups 64 s n) ≡ (m + 7) / 7
unfolding groups
sleb_size s m n lo hi h = groups_size 64 6 refl refl (omega arith) (omega arith) s 9 m n lo hi (omega arith) (omega arith)
