-- Two's complement as code computes it: -1 - k in 64 bits, the sign's test, and the number of bits whose highest is set.
use mathlib.Core.Path.{◌≡◌, refl, sym, ap, ◌∙◌}
use mathlib.Core.Bool.{true, false}
use Prim.Native.Nat.{ℕ, zero, suc, ◌-◌, ◌^◌, ◌<◌}
use native.Mathlib.Omega.{arith}
use borrow.Author.Tests.{le-ltb}
use lib.IntN.{ℤ, pos, negsuc, ◌-ℤ◌}
use lib.Signed.{lt_z, mag}
use mir.Syntax.{Width, w64}
use mir.Val.{SFits, bits, hbits, of_z, to_z}
use mir.Facts.{to_z-of_z, to_z_pos, to_z-neg}

minus_one : (k : ℕ) → negsuc 0 -ℤ pos k ≡ negsuc k
minus_one zero = refl
minus_one (suc k) = ap negsuc (omega arith)

module _ (k : ℕ) (h : k < 2 ^ 63) where
  complement : negsuc 0 -ℤ to_z w64 k ≡ negsuc k
  complement = rw (to_z_pos w64 {n = k} h) (minus_one k)

  pub complement_fits : SFits w64 (negsuc 0 -ℤ to_z w64 k)
  complement_fits = rw complement (record { sfits = h })

  pub complement_is : to_z w64 (of_z w64 (negsuc 0 -ℤ to_z w64 k)) ≡ negsuc k
  complement_is = to_z-of_z complement_fits ∙ complement

-- bits x of a width whose highest is set: the complement of their complement
pub high_bits : (w : Width) (x : ℕ) → x < 2 ^ bits w → 2 ^ bits w - 1 - x < 2 ^ hbits w → 2 ^ bits w - 1 - x < 2 ^ 63
    → to_z w64 (of_z w64 (negsuc 0 -ℤ to_z w64 (2 ^ bits w - 1 - x))) ≡ to_z w x
high_bits w x h low small =
    let k : ℕ = 2 ^ bits w - 1 - x in
    let e : 2 ^ bits w - suc k ≡ x = omega arith in
    complement_is k small ∙ sym (to_z-neg w k low) ∙ ap (to_z w) e

-- what the test of the sign says
pub below_zero : (z : ℤ) → lt_z z (pos 0) ≡ true → z ≡ negsuc (mag z)
below_zero (pos n) h = let z : ◌≡◌ {A = ℕ} 0 1 = cc (le-ltb n 0 (omega arith)) in absurd (omega arith)
below_zero (negsuc n) h = refl

pub above_zero : (z : ℤ) → lt_z z (pos 0) ≡ false → z ≡ pos (mag z)
above_zero (pos n) h = refl
above_zero (negsuc n) h = let z : ◌≡◌ {A = ℕ} 0 1 = cc in absurd (omega arith)
