-- A number of words above or below the frame address, and whether 64 bits hold it.
use mathlib.Core.Path.{◌≡◌, sym, ap, ◌∙◌}
use Prim.Native.Nat.{ℕ, zero, suc, ◌*◌, ◌^◌, ◌≤◌, ◌<◌}
use native.Mathlib.Omega.{arith}
use lib.IntN.{ℤ, pos, negsuc, neg_ℤ, ◌-ℤ◌, +ℤ_idl, nat_abs}
use lib.Signed.{mag}
use mir.Syntax.{w64}
use mir.Val.{SFits, of_z, to_z}
use mir.Facts.{to_z-of_z}
use Rattle.std.specs.Prelude.{Some, None, Result, Ok, Err, OkIff}
use Rattle.std.specs.Result.{result_ok}
use Rattle.format.specs.Leb.{fits64}
use Rattle.format.specs.Rows.{unfactor}
use Rattle.format.proofs.Choice.{if-le, if-gt, either}
use Rattle.operations.specs.declared.fields.Position.{Position}
use Rattle.operations.specs.Reads.{held}

-- ---- a conversion that may be refused

pub converted : {T E : Type 0} (r : Result T E) (P : Type 0) (v x : T) → OkIff r P v → Some x ≡ result_ok r → P × (x ≡ v)
converted (Ok y) P v x h e = let i : x ≡ y = cc in (h.0, i ∙ h.1)
converted (Err d) P v x h e = let z : ◌≡◌ {A = ℕ} 0 1 = cc in absurd (omega arith)

pub refused : {T E : Type 0} (r : Result T E) (P : Type 0) (v : T) → OkIff r P v → None ≡ result_ok r → P → ⊥
refused (Ok y) P v h e p = let z : ◌≡◌ {A = ℕ} 0 1 = cc in absurd (omega arith)
refused (Err d) P v h e p = h p

-- ---- what 64 bits hold

module _ (past : Position) where
  held_in : (z : ℤ) → SFits w64 z → held z past ≡ Some (z, past)
  unfolding held fits64
  held_in (pos n) h = if-le (suc n) (2 ^ 63) (Some (pos n, past)) None h.sfits
  held_in (negsuc n) h = if-le (suc n) (2 ^ 63) (Some (negsuc n, past)) None h.sfits

  held_out : (z : ℤ) → 2 ^ 63 ≤ mag z → held z past ≡ None
  unfolding held fits64
  held_out (pos n) h = if-gt (suc n) (2 ^ 63) (Some (pos n, past)) None (omega arith)
  held_out (negsuc n) h = if-gt (suc n) (2 ^ 63) (Some (negsuc n, past)) None (omega arith)

  pub passed_on : (z x : ℤ) → SFits w64 z × (x ≡ z) → Some (to_z w64 (of_z w64 x), past) ≡ held z past
  passed_on z x h = rw (h.1, to_z-of_z h.0) (sym (held_in z h.0))

  pub not_held : (z : ℤ) → (SFits w64 z → ⊥) → None ≡ held z past
  not_held z h = either (suc (mag z)) (2 ^ 63) (λ l. absurd (h (record { sfits = omega arith }))) (λ g. sym (held_out z (omega arith)))

-- ---- words

neg_fits : (n : ℕ) → SFits w64 (neg_ℤ (pos n)) → n < 2 ^ 64
neg_fits zero f = omega arith
neg_fits (suc n) f = omega (arith, f.sfits)

-- of a negative number of words
pub above_words : (w : ℕ) (z : ℤ) → z ≡ negsuc (mag z) → unfactor w z ≡ pos (nat_abs z * w)
unfolding unfactor
above_words w z e = rw e

-- the size of one that is not negative
pub below_words : (z : ℤ) → z ≡ pos (mag z) → pos (nat_abs z) ≡ z
below_words z e = rw e

module _ (w v : ℕ) (past : Position) where
  -- a product of more than 64 bits
  pub below_none : (v * w < 2 ^ 64 → ⊥) → None ≡ held (unfactor w (pos v)) past
  unfolding unfactor
  below_none h = not_held past (neg_ℤ (pos (v * w))) (λ f. h (neg_fits (v * w) f))

  pub above_none : (v * w < 2 ^ 64 → ⊥) → None ≡ held (pos (v * w)) past
  above_none h = not_held past (pos (v * w)) (λ f. h (omega (arith, f.sfits)))

  module _ {n : ℕ} (e : n ≡ v * w) where
    is_below : pos 0 -ℤ pos n ≡ unfactor w (pos v)
    unfolding unfactor
    is_below = +ℤ_idl (neg_ℤ (pos n)) ∙ ap (λ (k : ℕ). neg_ℤ (pos k)) e

    pub below_over : (SFits w64 (pos 0 -ℤ pos n) → ⊥) → None ≡ held (unfactor w (pos v)) past
    below_over h = not_held past (pos 0 -ℤ pos n) h ∙ ap (λ (z : ℤ). held z past) is_below

    pub below_held : (x : ℤ) → SFits w64 (pos 0 -ℤ pos n) × (x ≡ (pos 0 -ℤ pos n)) → Some (to_z w64 (of_z w64 x), past) ≡ held (unfactor w (pos v)) past
    below_held x h = passed_on past (pos 0 -ℤ pos n) x h ∙ ap (λ (z : ℤ). held z past) is_below

-- a number that is converted to 64 bits with a sign
module _ {E : Type 0} (n : ℕ) (past : Position) (r : Result ℤ E) (h : OkIff r (SFits w64 (pos n)) (pos n)) where
  pub to_signed : (x : ℤ) → Some x ≡ result_ok r → Some (to_z w64 (of_z w64 x), past) ≡ held (pos n) past
  to_signed x e = passed_on past (pos n) x (converted r (SFits w64 (pos n)) (pos n) x h e)

  pub not_signed : None ≡ result_ok r → None ≡ held (pos n) past
  not_signed e = not_held past (pos n) (refused r (SFits w64 (pos n)) (pos n) h e)
