-- `reader::shortest::run` meets its contract.
use mathlib.Core.Path.{◌∙◌}
use borrow.Author.Tests.{not-true, not-false}
use Rattle.reader.proofs.Reading.{along, read, inside, onward, all_read}
use Rattle.reader.proofs.Marks.{start, ended, unread, long_operand, far_step, near_step, pad_passed, row_passed}
use Rattle.reader.proofs.shortest.run.Goals as goal

pub operations-init : goal.operations-init
operations-init c =
    let e = c.new-read-items.ensures in
    rw (c.into_iter-read-iterator.ensures.into_iter_gives) (along e.0 e.1 e.2 (start c.args.s.now c.args.word c.args.p))

pub returns-in_default : goal.returns-in_default
returns-in_default c =
    let i = c.operations.invariant in
    let g = c.in-Some.ensures.steps in
    unread i.here (inside i g) (read i g ∙ c.in_default.is)

pub returns-then-not-next : goal.returns-then-not-next
returns-then-not-next c =
    let i = c.operations.invariant in
    let g = c.in-Some.ensures.steps in
    long_operand i.here (inside i g) (read i g ∙ c.in-Some-read.is) (not-true _ c.if-not-next.true)

pub operations-preserved-in-Nop : goal.operations-preserved-in-Nop
operations-preserved-in-Nop c =
    let i = c.operations.invariant in
    let g = c.in-Some.ensures.steps in
    onward i g c.in-Some-read.is (pad_passed i.here (inside i g) (read i g ∙ c.in-Some-read.is) (not-false _ c.if-not-next.false) c.in-Nop.is)

pub operations-preserved-in-Does : goal.operations-preserved-in-Does
operations-preserved-in-Does c =
    let i = c.operations.invariant in
    let g = c.in-Some.ensures.steps in
    onward i g c.in-Some-read.is (row_passed i.here (inside i g) (read i g ∙ c.in-Some-read.is) (not-false _ c.if-not-next.false) c.in-Does.is)

pub returns-then-p-loc : goal.returns-then-p-loc
returns-then-p-loc c =
    let i = c.operations.invariant in
    let g = c.in-Some.ensures.steps in
    far_step i.here (inside i g) (read i g ∙ c.in-Some-read.is) (not-false _ c.if-not-next.false) c.in-Step.is c.if-p-loc.true

pub operations-preserved : goal.operations-preserved
operations-preserved c =
    let i = c.operations.invariant in
    let g = c.in-Some.ensures.steps in
    onward i g c.in-Some-read.is (near_step i.here (inside i g) (read i g ∙ c.in-Some-read.is) (not-false _ c.if-not-next.false) c.in-Step.is c.if-p-loc.false)

pub returns : goal.returns
returns c = ended c.operations.invariant.here (all_read c.operations.invariant c.in-None.ensures.steps)
