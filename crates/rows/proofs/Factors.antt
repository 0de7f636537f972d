-- An offset divided by minus the word, as the machine computes it, and the bytes of a frame address's offset.
use mathlib.Core.Path.{◌≡◌, refl, ap, ◌∙◌}
use mathlib.Core.Bool.{true, false}
use mathlib.Core.List.{List, [], ◌∷◌, ◌++◌}
use Prim.Native.Nat.{ℕ, zero, suc, ◌-◌, ◌*◌, ◌/◌, ◌^◌, ◌≤◌, ◌<◌}
use native.Mathlib.Omega.{arith}
use native.Mathlib.Nat.{div-add-mod', mul-le-mul_left}
use lib.IntN.{ℤ, pos, negsuc, neg_ℤ, ◌-ℤ◌, +ℤ_idl, nat_abs}
use lib.ListN.{length}
use lib.Signed.{lt_z, mag, quot_z}
use mir.Syntax.{w64}
use mir.Val.{SFits, of_z, to_z}
use mir.Facts.{to_z-of_z, to_z_pos}
use Rattle.format.specs.Leb.{uleb, sleb}
use Rattle.format.specs.Rows.{factor, cfa_bytes}
use Rattle.rows.specs.Operands.{by_sign, offset_bytes}
use Rattle.rows.proofs.Signs.{passed, negative, positive}
use Rattle.rows.proofs.Bytes.{uleb_ten, sleb_ten}

-- ---- the quotient

minus : (w : ℕ) → 0 < w → pos 0 -ℤ pos w ≡ negsuc (w - 1)
minus zero h = absurd (omega arith)
minus (suc b) h = rw +ℤ_idl (ap negsuc (omega arith))

divided : (w : ℕ) (z : ℤ) → 0 < w → quot_z z (negsuc (w - 1)) ≡ factor w z
unfolding factor
divided w (pos n) h = let e : suc (w - 1) ≡ w = omega arith in rw e
divided w (negsuc n) h = let e : suc (w - 1) ≡ w = omega arith in rw e

half : (n w : ℕ) → 2 ≤ w → n / w * 2 ≤ n
half n w h = omega (arith, div-add-mod' n w, mul-le-mul_left (n / w) h)

neg_mag : (q : ℕ) → mag (neg_ℤ (pos q)) ≤ q
neg_mag zero = omega arith
neg_mag (suc q) = omega arith

-- by two or more, so that the least i64 is no exception
factor_mag : (w : ℕ) (z : ℤ) → 2 ≤ w → mag z < 2 ^ 63 → mag (factor w z) < 2 ^ 63
unfolding factor
factor_mag w (pos n) h f = omega (arith, half n w h, neg_mag (n / w))
factor_mag w (negsuc n) h f = omega (arith, half (suc n) w h)

module _ (w : ℕ) (z : ℤ) (f : SFits w64 z) (lo : 2 ≤ w) (hi : w ≤ 8) where
  divisor : pos 0 -ℤ to_z w64 w ≡ negsuc (w - 1)
  divisor = rw (to_z_pos w64 {n = w} (omega arith)) (minus w (omega arith))

  pub divisor_fits : SFits w64 (pos 0 -ℤ to_z w64 w)
  divisor_fits = rw divisor (record { sfits = omega arith })

  quotient : quot_z (to_z w64 (of_z w64 z)) (to_z w64 (of_z w64 (pos 0 -ℤ to_z w64 w))) ≡ factor w z
  quotient = rw (to_z-of_z f, to_z-of_z divisor_fits, divisor) (divided w z (omega arith))

  pub quotient_fits : (0 < of_z w64 (pos 0 -ℤ to_z w64 w)) × SFits w64 (quot_z (to_z w64 (of_z w64 z)) (to_z w64 (of_z w64 (pos 0 -ℤ to_z w64 w))))
  quotient_fits = (rw divisor (omega arith), rw quotient (record { sfits = factor_mag w z lo f.sfits }))

  pub quotient_is : to_z w64 (of_z w64 (quot_z (to_z w64 (of_z w64 z)) (to_z w64 (of_z w64 (pos 0 -ℤ to_z w64 w))))) ≡ factor w z
  quotient_is = to_z-of_z quotient_fits.1 ∙ quotient

-- ---- the bytes, by the code's test of the sign

module _ (w : ℕ) (z : ℤ) (f : SFits w64 z) where
  pub signed_bytes : {q : ℤ} → lt_z (to_z w64 (of_z w64 z)) (pos 0) ≡ true → mag q < 2 ^ 63 → q ≡ factor w (to_z w64 (of_z w64 z)) → sleb (to_z w64 (of_z w64 q)) ≡ offset_bytes w z
  unfolding offset_bytes
  signed_bytes {q} h k e = rw (passed q k, e, to_z-of_z f, negative z f h)

  pub plain_bytes : lt_z (to_z w64 (of_z w64 z)) (pos 0) ≡ false → uleb (nat_abs (to_z w64 (of_z w64 z))) ≡ offset_bytes w z
  unfolding offset_bytes
  plain_bytes h = rw (to_z-of_z f, positive z f h)

pub frame_bytes : (w plain sf : ℕ) (reg : List ℕ) (z : ℤ) → cfa_bytes w plain sf reg z ≡ (by_sign plain sf z ∷ []) ++ (reg ++ offset_bytes w z)
unfolding cfa_bytes by_sign offset_bytes
frame_bytes w plain sf reg (pos n) = refl
frame_bytes w plain sf reg (negsuc n) = refl

pub offset_ten : (w : ℕ) (z : ℤ) → 2 ≤ w → mag z < 2 ^ 63 → length (offset_bytes w z) ≤ 10
unfolding offset_bytes
offset_ten w (pos n) h f = uleb_ten n (omega arith)
offset_ten w (negsuc n) h f = sleb_ten (factor w (negsuc n)) (factor_mag w (negsuc n) h f)
