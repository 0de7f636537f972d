-- `cfi_rules::pass::run_fde` meets its contract.
use Rattle.cfi_rules.specs.States.{run_of}
use Rattle.cfi_rules.proofs.PassLaws.{fde_done, fde_unread, fde_stepless, fde_passed, fde_refused}
use Rattle.cfi_rules.proofs.pass.run_fde.Goals as goal

pub returns-then-asked-next : goal.returns-then-asked-next
returns-then-asked-next c =
    fde_passed c.args.units.now c.args.function c.args.asked c.args.bytes.now c.args.from (run_of c.args.s.now) c.loop-at.at c.loop-at.location
    (run_of c.loop-at.s) c.loop-at.invariant c.loop-at-test.true c.in-Ok.read c.in-Ok.ensures.value c.in-Ok-Some.next
    (rw c.in-Ok-Some.field-0-is at c.in-Ok-Some.ensures) c.if-asked-next.true

pub returns-in-Err-act : goal.returns-in-Err-act
returns-in-Err-act c =
    rw c.new.ensures
    (fde_refused c.args.units.now c.args.function c.args.asked c.args.bytes.now c.args.from (run_of c.args.s.now) c.loop-at.at c.loop-at.location
    (run_of c.loop-at.s) c.loop-at.invariant c.loop-at-test.true c.in-Ok.read c.in-Ok.ensures.value c.in-Err-act.question
    (rw c.in-Ok-None.field-0-is at c.in-Ok-None.ensures) c.in-Err-act.ensures)

pub returns-in-Err-step_of : goal.returns-in-Err-step_of
returns-in-Err-step_of c =
    rw c.new-in-Err-step_of.ensures
    (fde_stepless c.args.units.now c.args.function c.args.asked c.args.bytes.now c.args.from (run_of c.args.s.now) c.loop-at.at c.loop-at.location
    (run_of c.loop-at.s) c.loop-at.invariant c.loop-at-test.true c.in-Ok.read c.in-Ok.ensures.value c.in-Err-step_of.question
    c.in-Err-step_of.ensures)

pub returns-in-Err : goal.returns-in-Err
returns-in-Err c =
    fde_unread c.args.units.now c.args.function c.args.asked c.args.bytes.now c.args.from (run_of c.args.s.now) c.loop-at.at c.loop-at.location
    (run_of c.loop-at.s) c.loop-at.invariant c.loop-at-test.true c.in-Err.refusal c.in-Err.ensures.value

pub returns : goal.returns
returns c =
    fde_done c.args.units.now c.args.function c.args.asked c.args.bytes.now c.args.from (run_of c.args.s.now) c.loop-at.at c.loop-at.location
    (run_of c.loop-at.s) c.loop-at.invariant c.loop-at-test.false
