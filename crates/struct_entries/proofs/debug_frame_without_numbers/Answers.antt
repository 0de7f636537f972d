-- `struct_entries::debug_frame_without_numbers` meets its contract.
use mathlib.Core.Path.{◌∙◌}
use Rattle.struct_entries.proofs.BeforeRoom.{debug_frame_no_functions, debug_frame_other, debug_frame_elf}
use Rattle.struct_entries.proofs.debug_frame_without_numbers.Goals as goal

pub returns-then-x-eq0 : goal.returns-then-x-eq0
returns-then-x-eq0 c = debug_frame_no_functions _ _ _ c.if-x-eq0.true

pub returns-then-x-elf : goal.returns-then-x-elf
returns-then-x-elf c = debug_frame_other _ _ _ c.if-x-eq0.false (rw c.from-elf.ensures at c.if-x-elf.true)

pub returns : goal.returns
returns c = rw (c.into.ensures, c.elf_asks.ensures) (debug_frame_elf _ _ _ c.if-x-eq0.false (c.if-x-elf.false ∙ c.from-elf.ensures))
