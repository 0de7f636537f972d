-- `reader::run::perform` meets its contract.
use Rattle.std.proofs.lemmas.Result.{err_from_is_err_and}
use Rattle.format.specs.Prelude.{onward}
use Rattle.reader.specs.OneRegister.{perform}
use Rattle.reader.specs.States.{run_of}
use Rattle.reader.proofs.Acting.{no_initial, with_initial}
use Rattle.reader.proofs.run.perform.Goals as goal

pub returns-in-Nop : goal.returns-in-Nop
unfolding perform
returns-in-Nop c = rw c.in-Nop.is

pub returns-then-is_none : goal.returns-then-is_none
unfolding perform
returns-then-is_none c = rw c.in-Step.is (no_initial c.args.q c.args.initial (run_of c.args.s.now) c.in-Step.n c.args.initial c.if-is_none.ensures)

pub returns-else-is_none : goal.returns-else-is_none
unfolding perform
returns-else-is_none c = rw c.in-Step.is (with_initial c.args.q c.args.initial (run_of c.args.s.now) c.in-Step.n c.args.initial c.if-is_none.ensures)

pub returns-in_err-act-in-Does : goal.returns-in_err-act-in-Does
unfolding perform onward
returns-in_err-act-in-Does c =
    let p = err_from_is_err_and c.from_residual.result c.from_residual.ensures.1 in
    rw (p.1, p.2, c.in-Does.is, c.in_err-act-in-Does.ensures)

pub returns-in_ok-act-in-Does : goal.returns-in_ok-act-in-Does
unfolding perform onward
returns-in_ok-act-in-Does c = rw (c.in-Does.is, c.in_ok-act-in-Does.ensures)
