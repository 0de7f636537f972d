-- The rows that a call implies, as the machine computes them.
use mathlib.Core.Path.{◌≡◌, ◌∙◌}
use mathlib.Core.List.{List, [], ◌∷◌}
use Prim.Native.Nat.{ℕ, zero, suc, ◌^◌, ◌<◌}
use native.Mathlib.Omega.{arith}
use lib.Dec.{eqb}
use lib.IntN.{pos, neg_ℤ, ◌-ℤ◌, +ℤ_idl}
use lib.ListN.{length, get_or}
use lib.Signed.{mag}
use mir.Syntax.{w64}
use mir.Val.{SFits, of_z, to_z}
use mir.Facts.{to_z-of_z, to_z_pos}
use Rattle.format.specs.declared.Machine.{Machine}
use Rattle.format.specs.declared.Row.{Row}
use Rattle.format.specs.declared.Row.TheVariants.{DefCfa, Offset, RememberState}
use Rattle.format.specs.Headers.{implied}
use Rattle.format.proofs.Choice.{pick_yes, pick_no, tested}
use Rattle.format.proofs.Fits.{MachineFits}

mag_below : (n : ℕ) → n < 2 ^ 31 → mag (neg_ℤ (pos n)) < 2 ^ 63
mag_below zero h = omega arith
mag_below (suc n) h = omega arith

module _ (n : ℕ) (h : n < 2 ^ 31) where
  below : pos 0 -ℤ to_z w64 n ≡ neg_ℤ (pos n)
  below = rw (to_z_pos w64 {n = n} (omega arith)) (+ℤ_idl (neg_ℤ (pos n)))

  pub below_fits : SFits w64 (pos 0 -ℤ to_z w64 n)
  below_fits = rw below (record { sfits = mag_below n h })

  below_is : to_z w64 (of_z w64 (pos 0 -ℤ to_z w64 n)) ≡ neg_ℤ (pos n)
  below_is = to_z-of_z below_fits ∙ below

module _ (m : Machine) (fit : MachineFits m) where
  pub frame_row : (i : ℕ) → i ≡ 0 → DefCfa m.stack (to_z w64 m.pushed) ≡ get_or (implied m) i RememberState
  unfolding implied
  frame_row i e = rw (e, to_z_pos w64 {n = m.pushed} (omega (arith, fit.pushed_small)))

  pub return_row : (i : ℕ) → (i ≡ 0 → ⊥) → i < length (implied m)
      → Offset m.ret (to_z w64 (of_z w64 (pos 0 -ℤ to_z w64 m.pushed))) ≡ get_or (implied m) i RememberState
  unfolding implied
  return_row i e h =
      let r : List Row = Offset m.ret (neg_ℤ (pos m.pushed)) ∷ [] in
      tested (eqb m.pushed 0) (λ t. absurd (omega (arith, rw (pick_yes (eqb m.pushed 0) [] r t) at h)))
      (λ t.
      let l = rw (pick_no (eqb m.pushed 0) [] r t) at h in
      let o : i ≡ 1 = omega arith in
      rw (o, pick_no (eqb m.pushed 0) [] r t, below_is m.pushed fit.pushed_small))
