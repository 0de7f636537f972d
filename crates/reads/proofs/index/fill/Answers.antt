-- `reads::index::fill` meets its contract.
use Rattle.std.proofs.Common.{sym, ◌∙◌, arith, length-set, rules}
use Rattle.reader.proofs.Giving.{begin, at, ends, held, past, stopped}
use Rattle.reads.proofs.Indexing.{filling, fill_skipped, fill_header, fill_room, fill_record, filled}
use Rattle.reads.specs.Standing.{stored_as}
use Rattle.reads.proofs.Marking.{marking, marks_on, marking_on}
use Rattle.reads.proofs.index.fill.Goals as goal

pub entries-init : goal.entries-init
unfolding stored_as
entries-init c =
    let a = c.args in
    let e = c.new-entry-items.ensures in
    rw (c.into_iter-entry-iterator.ensures.into_iter_gives) (begin e.0 e.1 (filling a.links.now.bytes.now a.links.now.debug a.links.now.relocations.now a.places.now c.requires.0 c.requires.1, marking a.links.now.bytes.now c.requires.0))

pub is_header-requires : goal.is_header-requires
is_header-requires c = held c.entries.invariant c.in-Some.ensures.steps

pub entries-preserved-then-is_header : goal.entries-preserved-then-is_header
unfolding stored_as
entries-preserved-then-is_header c = past c.entries.invariant c.in-Some.ensures.steps (fill_header _ _ _ _ (at c.entries.invariant c.in-Some.ensures.steps).0 (ends c.entries.invariant c.in-Some.ensures.steps) (sym c.is_header.ensures ∙ c.if-is_header.true), marking_on (at c.entries.invariant c.in-Some.ensures.steps).1 (ends c.entries.invariant c.in-Some.ensures.steps) _ c.mark.ensures.0)

pub overflow_add-entry : goal.overflow_add-entry
overflow_add-entry c = let l = (held c.entries.invariant c.in-Some.ensures.steps).0 in let i = (held c.entries.invariant c.in-Some.ensures.steps).1 in search rules

pub skipped-from-requires : goal.skipped-from-requires
skipped-from-requires c = fill_skipped _ _ _ _ (at c.entries.invariant c.in-Some.ensures.steps).0 (ends c.entries.invariant c.in-Some.ensures.steps)

pub header_start-last-requires : goal.header_start-last-requires
header_start-last-requires c = (held c.entries.invariant c.in-Some.ensures.steps, c.requires.0, (at c.entries.invariant c.in-Some.ensures.steps).0.headed, c.skipped-from.ensures.searching _ (omega arith), marks_on (at c.entries.invariant c.in-Some.ensures.steps).1 _ c.mark.ensures.0)

pub offset_bounds-places-i : goal.offset_bounds-places-i
offset_bounds-places-i c = let r = fill_room _ _ _ _ (at c.entries.invariant c.in-Some.ensures.steps).0 (ends c.entries.invariant c.in-Some.ensures.steps) (sym c.is_header.ensures ∙ c.if-is_header.false) in search rules

pub bounds-places-i : goal.bounds-places-i
bounds-places-i c = let r = fill_room _ _ _ _ (at c.entries.invariant c.in-Some.ensures.steps).0 (ends c.entries.invariant c.in-Some.ensures.steps) (sym c.is_header.ensures ∙ c.if-is_header.false) in search rules

pub overflow_add-places : goal.overflow_add-places
overflow_add-places c = let r = fill_room _ _ _ _ (at c.entries.invariant c.in-Some.ensures.steps).0 (ends c.entries.invariant c.in-Some.ensures.steps) (sym c.is_header.ensures ∙ c.if-is_header.false) in search rules

pub offset_bounds-places-i-in-entries : goal.offset_bounds-places-i-in-entries
offset_bounds-places-i-in-entries c = let r = fill_room _ _ _ _ (at c.entries.invariant c.in-Some.ensures.steps).0 (ends c.entries.invariant c.in-Some.ensures.steps) (sym c.is_header.ensures ∙ c.if-is_header.false) in search rules

pub bounds-places-i-in-entries : goal.bounds-places-i-in-entries
bounds-places-i-in-entries c = let r = fill_room _ _ _ _ (at c.entries.invariant c.in-Some.ensures.steps).0 (ends c.entries.invariant c.in-Some.ensures.steps) (sym c.is_header.ensures ∙ c.if-is_header.false) in simp length-set (search rules)

pub overflow_add-i : goal.overflow_add-i
overflow_add-i c = let r = fill_room _ _ _ _ (at c.entries.invariant c.in-Some.ensures.steps).0 (ends c.entries.invariant c.in-Some.ensures.steps) (sym c.is_header.ensures ∙ c.if-is_header.false) in search rules

pub entries-preserved : goal.entries-preserved
entries-preserved c = rw c.place_of.ensures (past c.entries.invariant c.in-Some.ensures.steps (fill_record _ _ _ _ (at c.entries.invariant c.in-Some.ensures.steps).0 (ends c.entries.invariant c.in-Some.ensures.steps) (sym c.is_header.ensures ∙ c.if-is_header.false) c.skipped-from.ensures c.header_start-last.ensures.0 c.header_start-last.ensures.1, marking_on (at c.entries.invariant c.in-Some.ensures.steps).1 (ends c.entries.invariant c.in-Some.ensures.steps) _ c.mark.ensures.0))

pub shape_of-places : goal.shape_of-places
shape_of-places c = c.entries.invariant.here.0.long

pub returns : goal.returns
returns c = filled _ _ _ _ c.entries.invariant.here.0 (stopped c.entries.invariant c.in-None.ensures.steps)
