-- `given::FunctionRows::prologue` meets its contract.
use native.Mathlib.Omega.{arith}
use Rattle.std.proofs.lemmas.Result.{err_from_is_err_and}
use Rattle.std.proofs.lemmas.Bool.{not-true, not-false}
use Rattle.rows.proofs.Signs.{passed}
use Rattle.prologue.proofs.Told.{ok_of, err_of}
use Rattle.prologue.proofs.Answers.{shaped, unnamed, stopped}
use Rattle.prologue.proofs.given.FunctionRows.prologue.Goals as goal

pub returns-in_err-w : goal.returns-in_err-w
returns-in_err-w c =
    let p = err_from_is_err_and c.from_residual.result c.from_residual.ensures.1 in
    rw (p.1, p.2) (stopped c.args.m.now.machine.now _ _ c.leading-leading.ensures _ (err_of _ c.in_err-w.was c.read_rows.ensures.0))

pub returns-then-not-w : goal.returns-then-not-w
returns-then-not-w c =
    unnamed c.args.m.now.machine.now _ _ c.leading-leading.ensures (ok_of _ c.in_ok-w.was c.read_rows.ensures.0) (not-true _ c.if-not-w.true)

pub invariant_of-result : goal.invariant_of-result
invariant_of-result c =
    let h = rw c.in_ok-w.was at c.read_rows.ensures in
    record { short = rw (passed c.in_ok-w.w.below (omega (arith, h.1))) h.1 }

pub returns : goal.returns
returns c =
    let h = rw c.in_ok-w.was at c.read_rows.ensures in
    rw (passed c.in_ok-w.w.below (omega (arith, h.1)))
    (shaped c.args.m.now.machine.now _ _ c.leading-leading.ensures (ok_of _ c.in_ok-w.was c.read_rows.ensures.0) h.1 (not-false _ c.if-not-w.false))
