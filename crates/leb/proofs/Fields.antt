-- Fields byte by byte, and a field of zeros.
use mathlib.Core.Path.{◌≡◌, refl}
use Prim.Native.Nat.{ℕ, zero, suc, ◌+◌, ◌/◌, ◌%◌}
use native.Mathlib.Omega.{arith}
use mathlib.Core.List.{[], ◌∷◌}
use lib.ListN.{replicate}
use Rattle.format.specs.Leb.{little}

pub little_done : (n v : ℕ) → n ≡ 0 → little n v ≡ []
unfolding little
little_done zero v h = refl
little_done (suc n) v h = absurd (omega arith)

pub little_more : (n m v : ℕ) → n ≡ m + 1 → little n v ≡ v % 256 ∷ little m (v / 256)
unfolding little
little_more zero m v h = absurd (omega arith)
little_more (suc n) m v h = let e : n ≡ m = omega arith in rw e

pub little_zeros : (n : ℕ) → little n 0 ≡ replicate n 0
unfolding little
little_zeros zero = refl
little_zeros (suc n) = rw (little_zeros n)
