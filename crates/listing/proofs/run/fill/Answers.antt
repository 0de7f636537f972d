-- `listing::run::fill` meets its contract.
use mathlib.Core.Path.{ap, ◌∙◌}
use native.Mathlib.Omega.{arith}
use Rattle.format.specs.Prelude.{good}
use Rattle.format.proofs.FieldsBack.{word_small}
use Rattle.format.proofs.PutLaws.{kept}
use Rattle.reader.specs.States.{run_of}
use Rattle.reader.proofs.Asked.{places}
use Rattle.reader.proofs.Both.{lies}
use Rattle.reader.proofs.Reading.{along, read, inside, onward, all_read}
use Rattle.listing.proofs.Doing.{bad_operation, all_done, goes_on, refused_by, in_record, stays, stands, stops, steps_on}
use Rattle.listing.proofs.Both.{begin, enter, again, cut, refuses, ended_all}
use Rattle.listing.proofs.run.fill.Goals as goal

pub entries-init : goal.entries-init
entries-init c = begin c.start-state.ensures c.requires.1

pub slice_bounds-new-start : goal.slice_bounds-new-start
slice_bounds-new-start c = let f = lies c.args.s.now c.args.l.now (record { at = 0; end = 0 }) c.operations-span-items.ensures c.requires.0 _ c.entries-test.true in omega (arith, f.0, f.1)

pub slice_bounds-new-count : goal.slice_bounds-new-count
slice_bounds-new-count c = let f = lies c.args.s.now c.args.l.now (record { at = 0; end = 0 }) c.operations-span-items.ensures c.requires.0 _ c.entries-test.true in omega (arith, f.0, f.1)

pub slice_bounds-new-end : goal.slice_bounds-new-end
slice_bounds-new-end c = let f = lies c.args.s.now c.args.l.now (record { at = 0; end = 0 }) c.operations-span-items.ensures c.requires.0 _ c.entries-test.true in omega (arith, f.0, f.1)

pub new-read-items-requires : goal.new-read-items-requires
new-read-items-requires c = (word_small c.args.l.now.word (places c.args.s.now c.args.l.now c.requires.0).0).0

pub operations-init : goal.operations-init
operations-init c =
    let e = c.new-read-items.ensures in
    rw (c.into_iter-read-iterator.ensures.into_iter_gives) (along e.0 e.1 e.2 (enter c.entries.invariant c.entries-test.true _ c.operations-span-items.ensures))

pub returns-in_default : goal.returns-in_default
returns-in_default c =
    let i = c.operations.invariant in
    let g = c.in-Some.ensures.steps in
    rw c.ended.ensures (refuses c.entries.invariant (bad_operation i.here (inside i g) (read i g ∙ c.in_default.is)))

pub returns-in-Err : goal.returns-in-Err
returns-in-Err c =
    let i = c.operations.invariant in
    rw c.ended-in-Err.ensures (refuses c.entries.invariant (refused_by i.here (read i c.in-Some.ensures.steps ∙ c.in-Some-read.is) c.in-Err.ensures))

pub operations-preserved-in-Ok-None : goal.operations-preserved-in-Ok-None
operations-preserved-in-Ok-None c =
    let i = c.operations.invariant in
    let g = c.in-Some.ensures.steps in
    onward i g c.in-Some-read.is (goes_on i.here (read i g ∙ c.in-Some-read.is) (c.in-Ok-None.ensures ∙ ap (λ n. good (n, run_of c.perform.new.s)) c.in-Ok-None.field-0-is))

pub operations-preserved-then-n-eq0 : goal.operations-preserved-then-n-eq0
operations-preserved-then-n-eq0 c =
    let i = c.operations.invariant in
    let g = c.in-Some.ensures.steps in
    onward i g c.in-Some-read.is (stands i.here (read i g ∙ c.in-Some-read.is) _ (c.in-Ok-Some.ensures ∙ ap (λ n. good (n, run_of c.perform.new.s)) c.in-Ok-Some.field-0-is) c.if-n-eq0.true)

pub entries-preserved-then-loc-n : goal.entries-preserved-then-loc-n
entries-preserved-then-loc-n c =
    let i = c.operations.invariant in
    let e = read i c.in-Some.ensures.steps ∙ c.in-Some-read.is in
    let h = c.in-Ok-Some.ensures ∙ ap (λ n. good (n, run_of c.perform.new.s)) c.in-Ok-Some.field-0-is in
    cut c.entries.invariant (stays i.here e _ h) c.entries-test.true (in_record i.here e _ h) (stops i.here e _ h c.if-n-eq0.false c.if-loc-n.true)

pub operations-preserved : goal.operations-preserved
operations-preserved c =
    let i = c.operations.invariant in
    let g = c.in-Some.ensures.steps in
    onward i g c.in-Some-read.is (steps_on i.here (read i g ∙ c.in-Some-read.is) _ (c.in-Ok-Some.ensures ∙ ap (λ n. good (n, run_of c.perform.new.s)) c.in-Ok-Some.field-0-is) c.if-n-eq0.false c.if-loc-n.false c.line-i.ensures (kept c.line-i.ensures))

pub entries-preserved : goal.entries-preserved
entries-preserved c =
    let i = c.operations.invariant in
    again c.entries.invariant i.here c.entries-test.true (all_done i.here (all_read i c.in-None.ensures.steps))

pub returns : goal.returns
returns c = rw c.listed.ensures (ended_all c.entries.invariant c.entries-test.false c.line-i-2.ensures)
