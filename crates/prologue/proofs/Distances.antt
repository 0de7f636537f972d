-- Distances of 32 bits added and subtracted in 64, as the machine passes them on.
use mathlib.Core.Path.{◌≡◌, sym, ap, ◌∙◌}
use mathlib.Core.Bool.{Bool, true, false, cond}
use Prim.Native.Nat.{ℕ, zero, suc, ◌+◌, ◌≤◌}
use native.Mathlib.Omega.{arith}
use lib.IntN.{ℤ, pos, negsuc, neg_ℤ, sub_ℕ, ◌+ℤ◌, ◌-ℤ◌}
use lib.Dec.{ltb, eqb→eq}
use lib.Signed.{mag}
use mir.Syntax.{w64}
use mir.Val.{SFits, of_z, to_z}
use mir.Facts.{to_z-of_z}
use Rattle.std.specs.Prelude.{Some, None}
use Rattle.std.specs.Prelude as code
use Rattle.std.specs.Bool.{Decides, one_answer}
use Rattle.std.specs.Cmp.{signed_Decides}
use Rattle.std.specs.Option.{SomeIff, option_eq}
use Rattle.std.specs.Ordering.{int_eq}
use borrow.Author.Tests.{eq-eqb}
use Rattle.format.specs.Rows.{same_offset}
use Rattle.prologue.specs.Readable.{Short}

-- ---- how large they get

mag_cond : (b : Bool) (x y : ℤ) (k : ℕ) → mag x ≤ k → mag y ≤ k → mag (cond b x y) ≤ k
mag_cond true x y k h l = h
mag_cond false x y k h l = l

mag_apart : (a b : ℕ) → mag (sub_ℕ a b) ≤ a + b
mag_apart a b = mag_cond (ltb a b) _ _ (a + b) (omega arith) (omega arith)

mag_sum : (x y : ℤ) → mag (x +ℤ y) ≤ suc (mag x + mag y)
mag_sum (pos a) (pos b) = omega arith
mag_sum (pos a) (negsuc b) = omega (arith, mag_apart a (suc b))
mag_sum (negsuc a) (pos b) = omega (arith, mag_apart b (suc a))
mag_sum (negsuc a) (negsuc b) = omega arith

mag_opposite : (z : ℤ) → mag (neg_ℤ z) ≤ suc (mag z)
mag_opposite (pos zero) = omega arith
mag_opposite (pos (suc n)) = omega arith
mag_opposite (negsuc n) = omega arith

short_fits : (z : ℤ) → Short z → SFits w64 z
short_fits z h = record { sfits = omega arith }

-- what is passed on is what was there
pub short_passed : (z : ℤ) → Short z → to_z w64 (of_z w64 z) ≡ z
short_passed z h = to_z-of_z (short_fits z h)

-- ---- as the code computes them

module _ (a b : ℤ) (h : Short a) (k : Short b) where
  pub sum_fits : SFits w64 (to_z w64 (of_z w64 a) +ℤ to_z w64 (of_z w64 b))
  sum_fits = rw (short_passed a h, short_passed b k) (record { sfits = omega (arith, mag_sum a b) })

  pub sum_is : to_z w64 (of_z w64 (to_z w64 (of_z w64 a) +ℤ to_z w64 (of_z w64 b))) ≡ a +ℤ b
  sum_is = to_z-of_z sum_fits ∙ rw (short_passed a h, short_passed b k)

  pub difference_fits : SFits w64 (to_z w64 (of_z w64 a) -ℤ to_z w64 (of_z w64 b))
  difference_fits = rw (short_passed a h, short_passed b k) (record { sfits = omega (arith, mag_sum a (neg_ℤ b), mag_opposite b) })

  pub difference_is : to_z w64 (of_z w64 (to_z w64 (of_z w64 a) -ℤ to_z w64 (of_z w64 b))) ≡ a -ℤ b
  difference_is = to_z-of_z difference_fits ∙ rw (short_passed a h, short_passed b k)

-- ---- as the code compares them, where the computed one has 64 bits

same_decides : (a b : ℤ) → Decides (same_offset a b) (a ≡ b)
unfolding same_offset
same_decides (pos a) (pos b) = (λ e. ap pos (eqb→eq a b (rw e tt)), λ e. eq-eqb a b cc)
same_decides (pos a) (negsuc b) = (λ e. cc, λ e. cc)
same_decides (negsuc a) (pos b) = (λ e. cc, λ e. cc)
same_decides (negsuc a) (negsuc b) = (λ e. ap negsuc (eqb→eq a b (rw e tt)), λ e. eq-eqb a b cc)

pub same_flip : (a b : ℤ) → same_offset a b ≡ same_offset b a
same_flip a b = let h = same_decides b a in one_answer (same_offset a b) (same_offset b a) (same_decides a b) ((λ e. sym (h.0 e)), (λ e. h.1 (sym e)))

pub checked_same : (r : code.Option ℤ) (d x : ℤ) → SomeIff r (SFits w64 d) d → SFits w64 x → option_eq int_eq r (Some x) ≡ same_offset d x
checked_same None d x h k = one_answer false (same_offset d x) ((λ e. cc), (λ e. absurd (h (rw e k)))) (same_decides d x)
checked_same (Some y) d x h k = rw h.1 (one_answer (int_eq d x) (same_offset d x) (signed_Decides d x) (same_decides d x))
