-- `codes::operand_no` meets its contract.
use native.Mathlib.Omega.{arith}
use Rattle.format.specs.X64.{operand_no}
use Rattle.rows.proofs.Signs.{passed}
use Rattle.codes.specs.Codes.{yes_or_no}
use Rattle.codes.proofs.operand_no.Goals as goal

pub returns-in-Push : goal.returns-in-Push
unfolding yes_or_no operand_no
returns-in-Push c = rw c.in-Push.is

pub returns-in-Alloc : goal.returns-in-Alloc
unfolding operand_no
returns-in-Alloc c = rw c.in-Alloc.is (rw (passed c.in-Alloc.z (omega arith)) at c.alloc_no.ensures)

pub returns-in-Frame : goal.returns-in-Frame
unfolding yes_or_no operand_no
returns-in-Frame c = rw c.in-Frame.is

pub returns-in-Save : goal.returns-in-Save
unfolding operand_no
returns-in-Save c = rw c.in-Save.is (rw (passed c.in-Save.z (omega arith)) at c.save_no.ensures)
