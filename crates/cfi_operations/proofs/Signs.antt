-- A sign on a magnitude, as the code computes it.
use Rattle.std.proofs.Common.{◌≡◌, refl, sym, ap, ◌∙◌, ℕ, zero, suc, ◌+◌, ◌-◌, ◌*◌, ◌^◌, ◌≤◌, ◌<◌, Bool, true, false, Some, None, arith}
use Rattle.std.specs.Prelude.{ℤ, pos, negsuc, neg_ℤ}
use Rattle.std.proofs.lemmas.Bool.Decides.{nat_tests}
use lib.IntN.{◌-ℤ◌}
use mir.Syntax.{w64}
use mir.Val.{SFits, of_z, to_z}
use mir.Facts.{to_z_pos}
use Rattle.format.proofs.Complements.{complement_is, complement_fits}
use Rattle.cfi_operations.specs.Numbers.{held, with_sign}

pub minus_fits : (m : ℕ) → m ≤ 2 ^ 63 → 0 < m → SFits w64 (negsuc 0 -ℤ to_z w64 (m - 1))
minus_fits m h p = complement_fits (m - 1) (omega arith)

pub minus_is : (m : ℕ) → m ≤ 2 ^ 63 → 0 < m → Some (to_z w64 (of_z w64 (negsuc 0 -ℤ to_z w64 (m - 1)))) ≡ held (with_sign true m)
minus_is zero h p = absurd (omega arith)
minus_is (suc k) h p = rw (complement_is (suc k - 1) (omega arith)) (grind (arith, nat_tests))

pub minus_over : (m : ℕ) → 2 ^ 63 < m → None ≡ held (with_sign true m)
minus_over zero h = absurd (omega arith)
minus_over (suc k) h = grind (arith, nat_tests)

pub over : (negative : Bool) (m : ℕ) → 2 ^ 64 ≤ m → None ≡ held (with_sign negative m)
over true m h = minus_over m (omega arith)
over false m h = grind (arith, nat_tests)
