-- `dwarf::sized` meets its contract.
use native.Mathlib.Omega.{arith}
use Rattle.dwarf.proofs.Totals.{near, sites_near, end_near, relocs_near, sites_end, sized_is}
use Rattle.dwarf.proofs.sized.Goals as goal

pub record_relocs_count-n-requires : goal.record_relocs_count-n-requires
record_relocs_count-n-requires c = c.requires.0.pairs_ready

pub record_size-requires : goal.record_size-requires
record_size-requires c = (near c.requires.0, c.requires.1)

pub overflow_add-result : goal.overflow_add-result
overflow_add-result c = omega (arith, end_near c.requires.0 c.record_size.ensures)

pub overflow_mul-result : goal.overflow_mul-result
overflow_mul-result c = omega (arith, relocs_near c.requires.0 c.record_relocs_count-n.ensures)

pub overflow_add-result-2 : goal.overflow_add-result-2
overflow_add-result-2 c = omega (arith, relocs_near c.requires.0 c.record_relocs_count-n.ensures)

pub call_sites_size-requires : goal.call_sites_size-requires
call_sites_size-requires c = (c.requires.0.landings_ready, sites_near c.requires.0)

pub overflow_add-result-3 : goal.overflow_add-result-3
overflow_add-result-3 c = omega (arith, sites_end c.requires.0 c.call_sites_size.ensures)

pub returns : goal.returns
returns c = sized_is c.requires.0 c.record_size.ensures c.record_relocs_count-n.ensures c.call_sites_size.ensures
