-- `given::Input::asks` meets its contract.
use mathlib.Core.Path.{ap}
use Rattle.format.specs.Coded.{numbered_at}
use Rattle.std.proofs.lemmas.Result.{err_from_is_err_and}
use Rattle.x64.specs.Sources.{asks_of}
use Rattle.x64.proofs.Asked.{start, turn, stopped, ended, no_with, first_err, second_err, third_err, all_yes}
use Rattle.x64.proofs.given.Input.asks.Goals as goal

pub loop-k-init : goal.loop-k-init
loop-k-init c = start _ _

pub loop-k-2-init : goal.loop-k-2-init
loop-k-2-init c = start _ _

pub loop-k-3-init : goal.loop-k-3-init
loop-k-3-init c = start _ _

pub returns-in_err-refused_at : goal.returns-in_err-refused_at
unfolding asks_of
returns-in_err-refused_at c =
    let p = err_from_is_err_and c.from_residual.result c.from_residual.ensures.1 in
    rw (p.1, p.2) (first_err _ _ _ (stopped c.loop-k.invariant c.loop-k-test.true (no_with _ _ c.refused_at.ensures c.length_asked.ensures) (ap numbered_at c.in_err-refused_at.was)))

pub loop-k-preserved : goal.loop-k-preserved
loop-k-preserved c = turn c.loop-k.invariant c.loop-k-test.true (no_with _ _ c.refused_at.ensures c.length_asked.ensures) (ap numbered_at c.in_ok-refused_at.was)

pub returns-in_err-refused_at-2 : goal.returns-in_err-refused_at-2
unfolding asks_of
returns-in_err-refused_at-2 c =
    let p = err_from_is_err_and c.from_residual-in_err-refused_at-2.result c.from_residual-in_err-refused_at-2.ensures.1 in
    rw (p.1, p.2) (second_err _ _ _ (ended c.loop-k.invariant c.loop-k-test.false) (stopped c.loop-k-2.invariant c.loop-k-2-test.true (no_with _ _ c.refused_at-in-loop-k-2.ensures c.rows_asked.ensures) (ap numbered_at c.in_err-refused_at-2.was)))

pub loop-k-2-preserved : goal.loop-k-2-preserved
loop-k-2-preserved c = turn c.loop-k-2.invariant c.loop-k-2-test.true (no_with _ _ c.refused_at-in-loop-k-2.ensures c.rows_asked.ensures) (ap numbered_at c.in_ok-refused_at-2.was)

pub returns-in_err-refused_at-3 : goal.returns-in_err-refused_at-3
unfolding asks_of
returns-in_err-refused_at-3 c =
    let p = err_from_is_err_and c.from_residual-in_err-refused_at-3.result c.from_residual-in_err-refused_at-3.ensures.1 in
    rw (p.1, p.2) (third_err _ _ _ (ended c.loop-k.invariant c.loop-k-test.false) (ended c.loop-k-2.invariant c.loop-k-2-test.false) (stopped c.loop-k-3.invariant c.loop-k-3-test.true (no_with _ _ c.refused_at-in-loop-k-3.ensures c.codes_asked.ensures) (ap numbered_at c.in_err-refused_at-3.was)))

pub loop-k-3-preserved : goal.loop-k-3-preserved
loop-k-3-preserved c = turn c.loop-k-3.invariant c.loop-k-3-test.true (no_with _ _ c.refused_at-in-loop-k-3.ensures c.codes_asked.ensures) (ap numbered_at c.in_ok-refused_at-3.was)

pub returns : goal.returns
unfolding asks_of
returns c = all_yes _ _ _ (ended c.loop-k.invariant c.loop-k-test.false) (ended c.loop-k-2.invariant c.loop-k-2-test.false) (ended c.loop-k-3.invariant c.loop-k-3-test.false)
