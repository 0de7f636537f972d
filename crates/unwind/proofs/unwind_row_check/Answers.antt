-- `unwind::unwind_row_check` meets its contract.
use mathlib.Core.Path.{ap, ◌∙◌}
use Rattle.format.specs.Answers.{bit}
use Rattle.format.proofs.Bits.{flag_number}
use Rattle.unwind.proofs.unwind_row_check.Goals as goal

pub returns : goal.returns
returns c = c.from.ensures ∙ (flag_number _ ∙ ap bit c.row_check.ensures)
