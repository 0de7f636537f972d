-- `struct_entries::unwind_relaxed_debug_frame_of` meets its contract.
use mathlib.Core.List.{[]}
use mathlib.Core.Bool.{not}
use mathlib.Core.Path.{ap}
use Rattle.format.specs.Questions.{room_in}
use Rattle.struct_entries.proofs.Sections.{of_debug_frame}
use Rattle.struct_entries.proofs.Packing.{there, debug_frame_finished}
use Rattle.struct_entries.proofs.Parts.{refuses, accepts, debug_frame_ready}
use Rattle.struct_entries.proofs.unwind_relaxed_debug_frame_of.Goals as goal

pub returns-then-not-pack : goal.returns-then-not-pack
returns-then-not-pack c =
    let a = c.args in
    debug_frame_finished a.numbers.now a.functions.now a.rows.now c.pack.result c.pack.ensures.0 a.format a.machine.now a.landings.now a.pairs.now
    (room_in a.places.now a.bytes.now a.relocations.now []) c.pack.ensures.1
    (refuses _ _ _ _ _ c.pack.result (ap not c.if-not-pack.true) c.debug_frame_without_numbers.ensures c.from.ensures)

pub packed-requires : goal.packed-requires
packed-requires c = rw c.pack.ensures.1 (there c.args.numbers.now c.args.functions.now c.args.rows.now c.pack.result c.pack.ensures.0 c.if-not-pack.false)

pub returns : goal.returns
returns c =
    let a = c.args in
    let h = there a.numbers.now a.functions.now a.rows.now c.pack.result c.pack.ensures.0 c.if-not-pack.false in
    debug_frame_finished a.numbers.now a.functions.now a.rows.now c.pack.result c.pack.ensures.0 a.format a.machine.now a.landings.now a.pairs.now
    (room_in a.places.now a.bytes.now a.relocations.now []) c.pack.ensures.1
    (accepts _ _ _ _ _ c.pack.result (ap not c.if-not-pack.false)
    (debug_frame_ready a.format a.machine.now _ _ _ a.landings.now a.pairs.now _ (rw c.pack.ensures.1 h))
    (of_debug_frame _ _ _ c.packed.ensures.exports, c.packed.ensures.numbers_after))
