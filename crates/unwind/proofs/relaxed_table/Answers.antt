-- `unwind::relaxed_table` meets its contract.
use mathlib.Core.Path.{ap, ◌∙◌}
use native.Mathlib.Omega.{arith}
use Rattle.std.specs.Prelude.{Ok}
use Rattle.unwind.proofs.Formats.{none_given, elf_given, coff_given, mach_o_given, no_table, no_format, writes_empty, writes_refused, same_answer}
use Rattle.unwind.proofs.Numbered.{named, unnamed}
use Rattle.unwind.proofs.relaxed_table.Goals as goal

pub returns-then-listed-eq0 : goal.returns-then-listed-eq0
returns-then-listed-eq0 c = writes_empty _ (none_given _ _ _ c.if-listed-eq0.true)

pub returns-in-Ok-Elf : goal.returns-in-Ok-Elf
returns-in-Ok-Elf c = same_answer (elf_given _ _ _ c.if-listed-eq0.false (named c.try_from.ensures (c.in-Ok-Elf.is ∙ ap Ok c.in-Ok-Elf.field-0-is))) c.dwarf.ensures

pub returns-in-Ok-Coff : goal.returns-in-Ok-Coff
returns-in-Ok-Coff c = same_answer (coff_given _ _ _ c.if-listed-eq0.false (named c.try_from.ensures (c.in-Ok-Coff.is ∙ ap Ok c.in-Ok-Coff.field-0-is))) c.windows.ensures

pub returns-in-Ok-MachO : goal.returns-in-Ok-MachO
returns-in-Ok-MachO c =
    rw c.into.ensures (writes_refused _ 78 0 (mach_o_given _ _ _ c.if-listed-eq0.false (named c.try_from.ensures (c.in-Ok-MachO.is ∙ ap Ok c.in-Ok-MachO.field-0-is))))

pub returns-in-Ok-Wasm : goal.returns-in-Ok-Wasm
returns-in-Ok-Wasm c =
    let e = named c.try_from.ensures (c.in-Ok-Wasm.is ∙ ap Ok c.in-Ok-Wasm.field-0-is) in
    writes_empty _ (no_table _ _ _ c.if-listed-eq0.false (omega (arith, e)) (omega (arith, e)))

pub returns-in-Ok-Plan9 : goal.returns-in-Ok-Plan9
returns-in-Ok-Plan9 c =
    let e = named c.try_from.ensures (c.in-Ok-Plan9.is ∙ ap Ok c.in-Ok-Plan9.field-0-is) in
    writes_empty _ (no_table _ _ _ c.if-listed-eq0.false (omega (arith, e)) (omega (arith, e)))

pub returns-in-Err : goal.returns-in-Err
returns-in-Err c =
    let u = unnamed c.try_from.ensures c.in-Err.is in
    rw (c.into-in-Err.ensures, u.0) (writes_refused _ 11 0 (no_format _ _ _ c.if-listed-eq0.false u.1))
