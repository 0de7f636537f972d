-- The sign and the magnitude of an i64: the machine holds its 64 bits, `of_z w64 v`, and what it computes of `to_z w64 (of_z w64 v)`, which is v.
use mathlib.Core.Path.{◌≡◌, refl, ap, ◌∙◌}
use mathlib.Core.Bool.{Bool, true, false}
use Prim.Native.Nat.{ℕ, suc, ◌^◌, ◌<◌}
use native.Mathlib.Omega.{arith}
use borrow.Author.Tests.{le-ltb}
use lib.Dec.{T}
use lib.IntN.{ℤ, pos, negsuc, ◌-ℤ◌, nat_abs}
use lib.Signed.{lt_z, mag, non_neg}
use mir.Syntax.{w64}
use mir.Val.{SFits, Fits, of_z, to_z}
use mir.Facts.{to_z-of_z}
use Rattle.format.specs.Leb.{sleb}
use Rattle.format.proofs.Complements.{above_zero}
use Rattle.leb.specs.Groups.{groups}
use Rattle.leb.specs.Signs.{is_negative}
use Rattle.leb.proofs.SevenBits.{signed}

pub below_zero : (v : ℤ) → lt_z v (pos 0) ≡ is_negative v
unfolding is_negative
below_zero (pos n) = le-ltb n 0 (omega arith)
below_zero (negsuc n) = refl

-- -1 - v, of a negative v
turned : (v : ℤ) → lt_z v (pos 0) ≡ true → negsuc 0 -ℤ v ≡ pos (mag v)
turned (pos n) h = let z : ◌≡◌ {A = ℕ} 0 1 = cc (le-ltb n 0 (omega arith)) in absurd (omega arith)
turned (negsuc n) h = rw (le-ltb (suc n) 1 (omega arith)) (ap pos (omega arith))

-- a number without sign, cast to a u64
cast : {z : ℤ} {n : ℕ} → z ≡ pos n → n < 2 ^ 63 → T (non_neg z) × Fits w64 (nat_abs z)
cast e h = rw e (tt, record { fits = omega arith })

module _ (v : ℤ) (f : SFits w64 v) where
  pub bytes_of : {neg : Bool} {m : ℕ} → neg ≡ is_negative (to_z w64 (of_z w64 v)) → m ≡ mag (to_z w64 (of_z w64 v)) → groups 64 neg m ≡ sleb v
  bytes_of a b = rw (a, b, to_z-of_z f, signed)

  module _ (h : lt_z (to_z w64 (of_z w64 v)) (pos 0) ≡ true) where
    less : negsuc 0 -ℤ to_z w64 (of_z w64 v) ≡ pos (mag v)
    less = rw (to_z-of_z f) (turned v (rw (to_z-of_z f) at h))

    pub less_fits : SFits w64 (negsuc 0 -ℤ to_z w64 (of_z w64 v))
    less_fits = rw less (record { sfits = f.sfits })

    less_back : to_z w64 (of_z w64 (negsuc 0 -ℤ to_z w64 (of_z w64 v))) ≡ pos (mag v)
    less_back = to_z-of_z less_fits ∙ less

    pub less_cast : T (non_neg (to_z w64 (of_z w64 (negsuc 0 -ℤ to_z w64 (of_z w64 v))))) × Fits w64 (nat_abs (to_z w64 (of_z w64 (negsuc 0 -ℤ to_z w64 (of_z w64 v)))))
    less_cast = cast less_back f.sfits

    pub less_is : nat_abs (to_z w64 (of_z w64 (negsuc 0 -ℤ to_z w64 (of_z w64 v)))) ≡ mag v
    less_is = ap nat_abs less_back

  module _ (h : lt_z (to_z w64 (of_z w64 v)) (pos 0) ≡ false) where
    same : to_z w64 (of_z w64 v) ≡ pos (mag v)
    same = to_z-of_z f ∙ above_zero v (rw (to_z-of_z f) at h)

    pub same_cast : T (non_neg (to_z w64 (of_z w64 v))) × Fits w64 (nat_abs (to_z w64 (of_z w64 v)))
    same_cast = cast same f.sfits

    pub same_is : nat_abs (to_z w64 (of_z w64 v)) ≡ mag v
    same_is = ap nat_abs same
