-- `unwind::relaxed_debug_frame` meets its contract.
use mathlib.Core.Path.{◌∙◌}
use Rattle.unwind.proofs.Formats.{none_given_debug, other_debug, writes_empty}
use Rattle.unwind.proofs.Delivering.{debug_writes}
use Rattle.unwind.proofs.relaxed_debug_frame.Goals as goal

pub returns-then-functions-eq0 : goal.returns-then-functions-eq0
returns-then-functions-eq0 c = writes_empty _ (none_given_debug _ _ _ c.if-functions-eq0.true)

pub returns-then-format-elf : goal.returns-then-format-elf
returns-then-format-elf c = writes_empty _ (other_debug _ _ _ c.if-functions-eq0.false (rw c.from-elf.ensures at c.if-format-elf.true))

pub returns : goal.returns
returns c = debug_writes _ _ _ _ _ _ c.if-functions-eq0.false (c.if-format-elf.false ∙ c.from-elf.ensures) c.dwarf.ensures
