-- `operations::pair_row` meets its contract.
use native.Mathlib.Omega.{arith}
use mir.Facts.{to_z-of_z}
use borrow.Author.Tests.{ne_eqb}
use Rattle.format.specs.Prelude.{pick}
use Rattle.operations.specs.Reads.{pair_row}
use Rattle.operations.proofs.pair_row.Goals as goal

pub returns-in-5 : goal.returns-in-5
unfolding pair_row pick
returns-in-5 c = rw (to_z-of_z c.ranges.z, c.in-5.is)

pub returns-in-17 : goal.returns-in-17
unfolding pair_row pick
returns-in-17 c = rw (to_z-of_z c.ranges.z, c.in-17.is)

pub returns-in_default : goal.returns-in_default
unfolding pair_row pick
returns-in_default c = let b = c.args.b in rw (to_z-of_z c.ranges.z) (simp (ne_eqb b 5 (λ e. omega arith), ne_eqb b 17 (λ e. omega arith)))
