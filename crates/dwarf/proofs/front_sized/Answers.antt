-- `dwarf::front_sized` meets its contract.
use native.Mathlib.Omega.{arith}
use Rattle.dwarf.proofs.Totals.{header_numbers}
use Rattle.dwarf.proofs.front_sized.Goals as goal

pub overflow_mul-result : goal.overflow_mul-result
overflow_mul-result c = omega (arith, c.requires.relocations, header_numbers _ c.args.f.now.machine.now c.args.t.bytes _ c.header_relocs_count-n.ensures)

pub overflow_add-result-2 : goal.overflow_add-result-2
overflow_add-result-2 c = omega (arith, c.requires.relocations, header_numbers _ c.args.f.now.machine.now c.args.t.bytes _ c.header_relocs_count-n.ensures)

pub returns : goal.returns
returns c = rw (c.header_size.ensures, header_numbers _ c.args.f.now.machine.now c.args.t.bytes _ c.header_relocs_count-n.ensures)
