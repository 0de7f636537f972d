-- `struct_entries::table_without_numbers` meets its contract.
use mathlib.Core.Path.{ap, ◌∙◌}
use native.Mathlib.Omega.{arith}
use Rattle.std.specs.Prelude.{Ok}
use Rattle.unwind.proofs.Numbered.{named, unnamed}
use Rattle.struct_entries.proofs.BeforeRoom.{table_no_functions, table_no_format, table_no_table, table_no_mach_o, table_elf, table_coff}
use Rattle.struct_entries.proofs.table_without_numbers.Goals as goal

pub returns-then-x-eq0 : goal.returns-then-x-eq0
returns-then-x-eq0 c = table_no_functions _ _ _ c.if-x-eq0.true

pub returns-in-Ok-Elf : goal.returns-in-Ok-Elf
returns-in-Ok-Elf c =
    rw (c.into.ensures, c.elf_asks.ensures) (table_elf _ _ _ c.if-x-eq0.false (named c.try_from.ensures (c.in-Ok-Elf.is ∙ ap Ok c.in-Ok-Elf.field-0-is)))

pub returns-in-Ok-Coff : goal.returns-in-Ok-Coff
returns-in-Ok-Coff c =
    rw (c.into-in-Ok-Coff.ensures, c.coff_asks.ensures) (table_coff _ _ _ c.if-x-eq0.false (named c.try_from.ensures (c.in-Ok-Coff.is ∙ ap Ok c.in-Ok-Coff.field-0-is)))

pub returns-in-Ok-MachO : goal.returns-in-Ok-MachO
returns-in-Ok-MachO c =
    rw c.into-in-Ok-MachO.ensures (table_no_mach_o _ _ _ c.if-x-eq0.false (named c.try_from.ensures (c.in-Ok-MachO.is ∙ ap Ok c.in-Ok-MachO.field-0-is)))

pub returns-in-Ok-Wasm : goal.returns-in-Ok-Wasm
returns-in-Ok-Wasm c =
    let e = named c.try_from.ensures (c.in-Ok-Wasm.is ∙ ap Ok c.in-Ok-Wasm.field-0-is) in
    table_no_table _ _ _ c.if-x-eq0.false (omega (arith, e)) (omega (arith, e))

pub returns-in-Ok-Plan9 : goal.returns-in-Ok-Plan9
returns-in-Ok-Plan9 c =
    let e = named c.try_from.ensures (c.in-Ok-Plan9.is ∙ ap Ok c.in-Ok-Plan9.field-0-is) in
    table_no_table _ _ _ c.if-x-eq0.false (omega (arith, e)) (omega (arith, e))

pub returns-in-Err : goal.returns-in-Err
returns-in-Err c =
    let u = unnamed c.try_from.ensures c.in-Err.is in
    rw (c.into-in-Err.ensures, u.0) (table_no_format _ _ _ c.if-x-eq0.false u.1)
