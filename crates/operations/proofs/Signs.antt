-- A sign put back on a magnitude: m, or -1 - m.
use mathlib.Core.Path.{◌≡◌}
use mathlib.Core.Bool.{Bool, true, false}
use Prim.Native.Nat.{ℕ, ◌^◌, ◌<◌}
use lib.IntN.{negsuc, ◌-ℤ◌}
use mir.Syntax.{w64}
use mir.Val.{SFits, of_z, to_z}
use mir.Facts.{to_z_pos}
use Rattle.format.proofs.Complements.{complement_is}
use Rattle.operations.specs.Signs.{signed}

module _ (m : ℕ) (h : m < 2 ^ 63) where
  pub turned_is : to_z w64 (of_z w64 (negsuc 0 -ℤ to_z w64 m)) ≡ signed true m
  unfolding signed
  turned_is = complement_is m h

  pub plain_is : to_z w64 m ≡ signed false m
  unfolding signed
  plain_is = to_z_pos w64 h

pub signed_fits : (neg : Bool) (m : ℕ) → m < 2 ^ 63 → SFits w64 (signed neg m)
unfolding signed
signed_fits false m h = record { sfits = h }
signed_fits true m h = record { sfits = h }
