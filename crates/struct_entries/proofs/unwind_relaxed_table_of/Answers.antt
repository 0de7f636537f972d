-- `struct_entries::unwind_relaxed_table_of` meets its contract.
use mathlib.Core.Bool.{not}
use mathlib.Core.Path.{ap}
use Rattle.format.specs.Questions.{room_in}
use Rattle.struct_entries.proofs.Sections.{of_table}
use Rattle.struct_entries.proofs.Packing.{there, table_finished}
use Rattle.struct_entries.proofs.Parts.{refuses, accepts, table_ready}
use Rattle.struct_entries.proofs.unwind_relaxed_table_of.Goals as goal

pub returns-then-not-pack : goal.returns-then-not-pack
returns-then-not-pack c =
    let a = c.args in
    table_finished a.numbers.now a.functions.now a.rows.now c.pack.result c.pack.ensures.0 a.format a.machine.now a.landings.now a.pairs.now
    (room_in a.places.now a.bytes.now a.relocations.now c.args.sites.now) c.pack.ensures.1
    (refuses _ _ _ _ _ c.pack.result (ap not c.if-not-pack.true) c.table_without_numbers.ensures c.from.ensures)

pub packed-requires : goal.packed-requires
packed-requires c = rw c.pack.ensures.1 (there c.args.numbers.now c.args.functions.now c.args.rows.now c.pack.result c.pack.ensures.0 c.if-not-pack.false)

pub returns : goal.returns
returns c =
    let a = c.args in
    let h = there a.numbers.now a.functions.now a.rows.now c.pack.result c.pack.ensures.0 c.if-not-pack.false in
    table_finished a.numbers.now a.functions.now a.rows.now c.pack.result c.pack.ensures.0 a.format a.machine.now a.landings.now a.pairs.now
    (room_in a.places.now a.bytes.now a.relocations.now c.args.sites.now) c.pack.ensures.1
    (accepts _ _ _ _ _ c.pack.result (ap not c.if-not-pack.false)
    (table_ready a.format a.machine.now _ _ _ a.landings.now a.pairs.now _ (rw c.pack.ensures.1 h))
    (of_table _ _ _ c.packed.ensures.exports, c.packed.ensures.numbers_after))
