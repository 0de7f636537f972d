-- `struct_entries::unwind_row_check_of` meets its contract.
use mathlib.Core.Path.{ap, ◌∙◌}
use Rattle.format.specs.Answers.{bit}
use Rattle.format.proofs.Bits.{flag_number}
use Rattle.struct_entries.proofs.unwind_row_check_of.Goals as goal

pub returns : goal.returns
returns c = c.from.ensures ∙ flag_number c.rows_checked.result ∙ ap bit c.rows_checked.ensures
