-- `dwarf::piece` meets its contract.
use Rattle.std.proofs.Common.{refl}
use native.Mathlib.Omega.{arith}
use Rattle.dwarf.proofs.PartStores.{table_fits, sites_ready, record_ready, relocs_ready, stored}
use Rattle.dwarf.proofs.piece.Goals as goal

pub record-at-requires : goal.record-at-requires
record-at-requires c = record_ready c.requires

pub overflow_add-p : goal.overflow_add-p
overflow_add-p c = omega (arith, table_fits c.requires c.padding.ensures)

pub record_relocs-i-requires : goal.record_relocs-i-requires
record_relocs-i-requires c = let r = relocs_ready c.requires _ in (r.0, r.2)

pub invariant_of-p : goal.invariant_of-p
invariant_of-p c = record { low = (relocs_ready c.requires 0).1 }

pub call_sites-end-requires : goal.call_sites-end-requires
call_sites-end-requires c = sites_ready c.requires

pub returns : goal.returns
returns c = record {
  stored = stored c.requires c.padding.ensures c.record-at.ensures c.record_relocs-i.ensures c.call_sites-end.ensures;
  places_kept = refl;
  same = record { places = refl; bytes = refl; relocations = refl; sites = refl };
}
