-- Zeros stored one behind the other: what the loops of `fill` know, and their turns.
use mathlib.Core.Path.{◌≡◌, refl, sym, ◌∙◌}
use Prim.Native.Nat.{ℕ, zero, suc, ◌+◌, ◌-◌, ◌≤◌}
use native.Mathlib.Omega.{arith}
use mathlib.Core.List.{List, ◌++◌}
use lib.ListN.{length, replicate, length-replicate}
use borrow.Rule.Slice.PartMut.{put_mid}
use Rattle.format.proofs.Wrote.{Wrote}
use Rattle.format.proofs.PutLaws.{kept, ◌then◌, idle}
use Rattle.format.proofs.Copied.{copied}

zeros_more : (k n : ℕ) → ◌++◌ {A = ℕ} (replicate k 0) (replicate n 0) ≡ replicate (k + n) 0
zeros_more zero n = let e : 0 + n ≡ n = omega arith in rw e
zeros_more (suc k) n = let e : suc k + n ≡ suc (k + n) = omega arith in rw (e, zeros_more k n)

-- ys is xs with k zeros stored from p on
pub record Zeros (xs ys : List ℕ) (p k : ℕ) : Type 0 where
  pub same_size : length ys ≡ length xs
  pub wrote : Wrote xs ys p (p + k) (replicate k 0)

pub nothing : {xs : List ℕ} {p k : ℕ} → k ≡ 0 → Zeros xs xs p k
nothing {xs} {p} {k} e =
    let q : p + 0 ≡ p = omega arith in
    rw e (record { same_size = refl; wrote = rw q idle })

-- n zeros more, by the library's `fill` of a part of the buffer
pub more : {xs ys zs : List ℕ} {p k : ℕ} (n m j : ℕ) → Zeros xs ys p k → zs ≡ replicate n 0 → n ≡ j → p + k + n ≤ length ys → m ≡ k + n
    → Zeros xs (put_mid (p + k) j ys zs) p m
more {xs} {ys} {zs} {p} {k} n m j z e d h f =
    let w : Wrote ys (put_mid (p + k) j ys zs) (p + k) (p + k + n) (replicate n 0) = copied e (sym (length-replicate {A = ℕ} n 0)) (sym d) h in
    let q : p + (k + n) ≡ p + k + n = omega arith in
    record { same_size = kept w ∙ z.same_size; wrote = rw (f, q, ← zeros_more k n) (z.wrote then w) }

-- the first k of n zeros, and the others behind them
pub behind : {xs ys zs : List ℕ} {p q r : ℕ} (k n : ℕ) → k ≤ n → Wrote xs ys p q (replicate k 0) → Wrote ys zs q r (replicate (n - k) 0)
    → Wrote xs zs p (p + n) (replicate n 0)
behind {xs} {ys} {zs} {p} {q} {r} k n h a b =
    let e : k + (n - k) ≡ n = omega arith in
    let w : Wrote xs zs p r (replicate n 0) = rw (zeros_more k (n - k), e) at (a then b) in
    record { past = omega (arith, length-replicate {A = ℕ} n 0); stored = w.stored }
