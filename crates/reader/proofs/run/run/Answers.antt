-- `reader::run::run` meets its contract.
use mathlib.Core.Path.{ap, ◌∙◌}
use native.Mathlib.Omega.{arith}
use Rattle.std.proofs.lemmas.Result.{err_from_is_err_and}
use Rattle.format.specs.Prelude.{good}
use Rattle.format.proofs.FieldsBack.{word_small}
use Rattle.reader.specs.States.{run_of}
use Rattle.reader.proofs.Reading.{along, read, inside, onward, all_read}
use Rattle.reader.proofs.Operations.{bad_operation, all_done, goes_on, refuses, in_record, still_seen, stops, steps_on}
use Rattle.reader.proofs.Asked.{places}
use Rattle.reader.proofs.Both.{lies, begin, enter, again, cut, ended}
use Rattle.reader.proofs.run.run.Goals as goal

pub entries-init : goal.entries-init
entries-init c = begin c.start-state.ensures

pub slice_bounds-new-start : goal.slice_bounds-new-start
slice_bounds-new-start c = let f = lies c.args.s.now c.args.l.now (record { at = 0; end = 0 }) c.operations-span-items.ensures c.requires _ c.entries-test.true in omega (arith, f.0, f.1)

pub slice_bounds-new-count : goal.slice_bounds-new-count
slice_bounds-new-count c = let f = lies c.args.s.now c.args.l.now (record { at = 0; end = 0 }) c.operations-span-items.ensures c.requires _ c.entries-test.true in omega (arith, f.0, f.1)

pub slice_bounds-new-end : goal.slice_bounds-new-end
slice_bounds-new-end c = let f = lies c.args.s.now c.args.l.now (record { at = 0; end = 0 }) c.operations-span-items.ensures c.requires _ c.entries-test.true in omega (arith, f.0, f.1)

pub new-read-items-requires : goal.new-read-items-requires
new-read-items-requires c = (word_small c.args.l.now.word (places c.args.s.now c.args.l.now c.requires).0).0

pub operations-init : goal.operations-init
operations-init c =
    let e = c.new-read-items.ensures in
    rw (c.into_iter-read-iterator.ensures.into_iter_gives) (along e.0 e.1 e.2 (enter c.entries.invariant c.entries-test.true _ c.operations-span-items.ensures))

pub returns-in_default : goal.returns-in_default
returns-in_default c =
    let i = c.operations.invariant in
    let g = c.in-Some.ensures.steps in
    bad_operation i.here (inside i g) (read i g ∙ c.in_default.is)

pub returns-in_err-n : goal.returns-in_err-n
returns-in_err-n c =
    let i = c.operations.invariant in
    let p = err_from_is_err_and c.from_residual.result c.from_residual.ensures.1 in
    rw (p.1, p.2) (refuses i.here (read i c.in-Some.ensures.steps ∙ c.in-Some-read.is) c.in_err-n.ensures)

pub operations-preserved-in_default-2 : goal.operations-preserved-in_default-2
operations-preserved-in_default-2 c =
    let i = c.operations.invariant in
    let g = c.in-Some.ensures.steps in
    onward i g c.in-Some-read.is (goes_on i.here (read i g ∙ c.in-Some-read.is) (c.in_ok-n.ensures ∙ ap (λ n. good (n, run_of c.perform.new.s)) c.in_default-2.is))

pub entries-preserved-then-p-loc : goal.entries-preserved-then-p-loc
entries-preserved-then-p-loc c =
    let i = c.operations.invariant in
    let e = read i c.in-Some.ensures.steps ∙ c.in-Some-read.is in
    let h = c.in_ok-n.ensures ∙ ap (λ n. good (n, run_of c.perform.new.s)) c.in-Some-2.is in
    cut c.entries.invariant c.entries-test.true (in_record i.here e _ h) i.here.all (still_seen i.here e _ h) (stops i.here e _ h c.if-p-loc.true)

pub operations-preserved : goal.operations-preserved
operations-preserved c =
    let i = c.operations.invariant in
    let g = c.in-Some.ensures.steps in
    onward i g c.in-Some-read.is (steps_on i.here (read i g ∙ c.in-Some-read.is) _ (c.in_ok-n.ensures ∙ ap (λ n. good (n, run_of c.perform.new.s)) c.in-Some-2.is) c.if-p-loc.false)

pub entries-preserved : goal.entries-preserved
entries-preserved c =
    let i = c.operations.invariant in
    again c.entries.invariant c.entries-test.true i.here.all i.here.seen (all_done i.here (all_read i c.in-None.ensures.steps))

pub returns : goal.returns
returns c = ended c.entries.invariant c.entries-test.false
