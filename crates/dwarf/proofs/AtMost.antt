-- A number of each function summed, where the sum is known to be small.
use mathlib.Core.Path.{◌≡◌, refl, ap, ◌∙◌}
use Prim.Native.Nat.{ℕ, zero, suc, ◌+◌, ◌-◌, ◌≤◌, ◌<◌}
use native.Mathlib.Omega.{arith}
use native.Mathlib.Numerals.{add-one}
use mathlib.Core.Bool.{Bool, true, false}
use mathlib.Core.List.{List}
use Rattle.format.specs.Prelude.{pick}
use Rattle.format.proofs.Choice.{either}
use Rattle.format.specs.Lists.{field, function_stride, mark, sum_of}
use Rattle.lists.specs.Parts.{where_labelled}
use Rattle.dwarf.specs.Tables.{labelled_rows}

-- at function k of n, the sum so far and that of what is left are the whole
pub record Adding (f : ℕ → ℕ) (n k sum : ℕ) : Type 0 where
  pub high : k ≤ n
  pub rest : sum_of f 0 n ≡ sum + sum_of f k (n - k)

pub start : (f : ℕ → ℕ) (n : ℕ) → Adding f n 0 0
start f n = record { high = omega arith; rest = let e : n ≡ n - 0 = omega arith in ap (sum_of f 0) e ∙ (omega arith) }

pub turn : {f : ℕ → ℕ} {n k sum v : ℕ} → Adding f n k sum → k < n → v ≡ f k → Adding f n (k + 1) (sum + v)
unfolding sum_of
turn {f} {n} {k} s h q =
    let e : n - k ≡ suc (n - suc k) = omega arith in
    let m : sum_of f k (n - k) ≡ f k + sum_of f (k + 1) (n - (k + 1)) = rw (add-one k, e) refl in
    record { high = omega arith; rest = omega (arith, s.rest) }

pub ended : {f : ℕ → ℕ} {n k sum : ℕ} → Adding f n k sum → n ≤ k → sum ≡ sum_of f 0 n
unfolding sum_of
ended {f} {n} {k} s h =
    let e : n - k ≡ 0 = omega arith in
    let m : sum_of f k (n - k) ≡ 0 = rw e refl in
    omega (arith, s.rest)

-- one of the numbers is at most their sum
pub one_of : (f : ℕ → ℕ) (at n k : ℕ) → at ≤ k → k < at + n → f k ≤ sum_of f at n
unfolding sum_of
one_of f at zero k l h = absurd (omega arith)
one_of f at (suc n) k l h =
    either (suc at) k (λ p. omega (arith, one_of f (suc at) n k p (omega arith)))
    (λ p.
    let e : at ≡ k = omega arith in
    let z : f at ≡ f k = ap f e in
    omega (arith, z))

-- ---- rows with labels are rows

picked_low : (b : Bool) (n : ℕ) → pick b n 0 ≤ n
unfolding pick
picked_low true n = omega arith
picked_low false n = omega arith

pub labelled_few : (fs : List ℕ) (at n : ℕ) → sum_of (labelled_rows fs) at n ≤ sum_of (λ k. field function_stride fs k 3) at n
unfolding sum_of where_labelled
labelled_few fs at zero = omega arith
labelled_few fs at (suc n) = omega (arith, picked_low (mark (field function_stride fs at 14)) (field function_stride fs at 3), labelled_few fs (suc at) n)
