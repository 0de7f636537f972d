-- `cfi_rules::pass::run_cie` meets its contract.
use Rattle.cfi_rules.specs.States.{run_of}
use Rattle.cfi_rules.proofs.PassLaws.{cie_done, cie_unread, cie_steps, cie_refused}
use Rattle.cfi_rules.proofs.pass.run_cie.Goals as goal

pub returns-then-is_step : goal.returns-then-is_step
returns-then-is_step c =
    rw c.new.ensures
    (cie_steps c.args.units.now c.args.bytes.now c.args.from (run_of c.args.s.now) c.loop-at.at (run_of c.loop-at.s) c.loop-at.invariant
    c.loop-at-test.true c.in-Ok.read c.in-Ok.ensures.value c.if-is_step.ensures)

pub returns-in-Err-act : goal.returns-in-Err-act
returns-in-Err-act c =
    rw c.new-in-Err-act.ensures
    (cie_refused c.args.units.now c.args.bytes.now c.args.from (run_of c.args.s.now) c.loop-at.at (run_of c.loop-at.s) c.loop-at.invariant
    c.loop-at-test.true c.in-Ok.read c.in-Ok.ensures.value c.in-Err-act.question c.if-is_step.ensures c.in-Err-act.ensures)

pub returns-in-Err : goal.returns-in-Err
returns-in-Err c =
    cie_unread c.args.units.now c.args.bytes.now c.args.from (run_of c.args.s.now) c.loop-at.at (run_of c.loop-at.s) c.loop-at.invariant
    c.loop-at-test.true c.in-Err.refusal c.in-Err.ensures.value

pub returns : goal.returns
returns c =
    cie_done c.args.units.now c.args.bytes.now c.args.from (run_of c.args.s.now) c.loop-at.at (run_of c.loop-at.s) c.loop-at.invariant
    c.loop-at-test.false
