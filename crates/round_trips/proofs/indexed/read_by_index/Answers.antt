-- `round_trips::indexed::read_by_index` meets its contract.
use Rattle.std.proofs.Common.{◌^◌, ◌<◌, length, rules, ◌∙◌, arith}
use Rattle.round_trips.proofs.ByIndex.{unindexed, inside, behind, located}
use Rattle.round_trips.proofs.indexed.read_by_index.Goals as goal

pub returns-then-indexed-ne0-clause-reading_value : goal.returns-then-indexed-ne0-clause-reading_value
returns-then-indexed-ne0-clause-reading_value c =
    c.numbers_of-answer.ensures ∙ unindexed _ _ _ c.unwind_index-indexed.ensures.answered c.if-indexed-ne0.true

pub returns-then-indexed-k-clause-reading_value : goal.returns-then-indexed-k-clause-reading_value
returns-then-indexed-k-clause-reading_value c =
    let a = c.args in
    let small : length a.section.now < 2 ^ 64 = search rules in
    rw c.number.ensures at c.numbers_of-answer-then-indexed-k.ensures
    ∙ behind a.section.now a.relocations.now a.kind a.word a.places.now _ _ c.unwind_index-indexed.ensures c.if-indexed-ne0.false a.k small a.q a.p c.if-indexed-k.true

pub overflow_mul-i : goal.overflow_mul-i
overflow_mul-i c =
    let a = c.args in
    let h = inside a.section.now a.relocations.now a.kind a.word a.places.now _ _ c.unwind_index-indexed.ensures c.if-indexed-ne0.false a.k c.if-indexed-k.false in
    search rules

pub offset_bounds-places-i : goal.offset_bounds-places-i
offset_bounds-places-i c =
    let a = c.args in
    let h = inside a.section.now a.relocations.now a.kind a.word a.places.now _ _ c.unwind_index-indexed.ensures c.if-indexed-ne0.false a.k c.if-indexed-k.false in
    search rules

pub bounds-places-i : goal.bounds-places-i
bounds-places-i c =
    let a = c.args in
    let h = inside a.section.now a.relocations.now a.kind a.word a.places.now _ _ c.unwind_index-indexed.ensures c.if-indexed-ne0.false a.k c.if-indexed-k.false in
    omega (arith, h)

pub overflow_add-i : goal.overflow_add-i
overflow_add-i c =
    let a = c.args in
    let h = inside a.section.now a.relocations.now a.kind a.word a.places.now _ _ c.unwind_index-indexed.ensures c.if-indexed-ne0.false a.k c.if-indexed-k.false in
    search rules

pub offset_bounds-places-i-2 : goal.offset_bounds-places-i-2
offset_bounds-places-i-2 c =
    let a = c.args in
    let h = inside a.section.now a.relocations.now a.kind a.word a.places.now _ _ c.unwind_index-indexed.ensures c.if-indexed-ne0.false a.k c.if-indexed-k.false in
    search rules

pub bounds-places-i-2 : goal.bounds-places-i-2
bounds-places-i-2 c =
    let a = c.args in
    inside a.section.now a.relocations.now a.kind a.word a.places.now _ _ c.unwind_index-indexed.ensures c.if-indexed-ne0.false a.k c.if-indexed-k.false

pub returns-clause-reading_value : goal.returns-clause-reading_value
returns-clause-reading_value c =
    let a = c.args in
    let small : length a.section.now < 2 ^ 64 = search rules in
    c.unwind_rules_at-answer.ensures
    ∙ located a.section.now a.relocations.now a.kind a.word a.places.now _ _ c.unwind_index-indexed.ensures c.if-indexed-ne0.false a.k small a.q a.p c.if-indexed-k.false _ c.unwind_locate_at-located.ensures
