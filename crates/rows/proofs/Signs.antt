-- An i64 as the machine passes it on: its 64 bits, `of_z w64 z`, and what they stand for.
use mathlib.Core.Path.{◌≡◌, refl}
use mathlib.Core.Bool.{true, false}
use Prim.Native.Nat.{ℕ, suc, ◌-◌, ◌^◌, ◌<◌}
use native.Mathlib.Omega.{arith}
use borrow.Author.Tests.{eq-eqb, ne_eqb}
use lib.Dec.{eqb, eqb→eq}
use lib.IntN.{ℤ, pos, negsuc}
use lib.Signed.{lt_z, mag}
use mir.Syntax.{w64}
use mir.Val.{SFits, of_z, to_z}
use mir.Facts.{to_z-of_z}
use Rattle.format.specs.Rows.{same_offset}
use Rattle.format.proofs.Choice.{tested}
use Rattle.format.proofs.Complements.{below_zero, above_zero}

-- what is passed on is what was there
pub passed : (z : ℤ) → mag z < 2 ^ 63 → to_z w64 (of_z w64 z) ≡ z
passed z h = to_z-of_z {w = w64} (record { sfits = h })

-- ---- by the code's test of the sign

module _ (z : ℤ) (f : SFits w64 z) where
  pub negative : lt_z (to_z w64 (of_z w64 z)) (pos 0) ≡ true → z ≡ negsuc (mag z)
  negative h = below_zero z (rw (to_z-of_z f) at h)

  pub positive : lt_z (to_z w64 (of_z w64 z)) (pos 0) ≡ false → z ≡ pos (mag z)
  positive h = above_zero z (rw (to_z-of_z f) at h)

-- ---- equal bits are equal numbers

pub eqb_both : (x y a b : ℕ) → (x ≡ y → a ≡ b) → (a ≡ b → x ≡ y) → eqb x y ≡ eqb a b
eqb_both x y a b f g =
    tested (eqb a b) (λ t. let e = eqb→eq a b t in rw (eq-eqb a b e) (eq-eqb x y (g e)))
    (λ t. let n : a ≡ b → ⊥ = λ e. absurd (rw (eq-eqb a b e) at t) in rw (ne_eqb a b n) (ne_eqb x y (λ e. n (f e))))

pub same_bits : (a b : ℤ) → mag a < 2 ^ 63 → mag b < 2 ^ 63 → eqb (of_z w64 a) (of_z w64 b) ≡ same_offset a b
unfolding same_offset
same_bits (pos a) (pos b) h k = refl
same_bits (pos a) (negsuc b) h k = ne_eqb a (2 ^ 64 - suc b) (λ e. omega arith)
same_bits (negsuc a) (pos b) h k = ne_eqb (2 ^ 64 - suc a) b (λ e. omega arith)
same_bits (negsuc a) (negsuc b) h k = eqb_both (2 ^ 64 - suc a) (2 ^ 64 - suc b) a b (λ e. omega arith) (λ e. omega arith)
