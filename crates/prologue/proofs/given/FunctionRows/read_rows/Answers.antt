-- `given::FunctionRows::read_rows` meets its contract.
use Rattle.prologue.specs.Given.{rows_in}
use mathlib.Core.Path.{refl}
use native.Mathlib.Omega.{arith}
use mir.Syntax.{w64}
use mir.Facts.{to_z_pos}
use Rattle.std.proofs.lemmas.Result.{err_from_is_err_and}
use Rattle.prologue.specs.Groups.{start}
use Rattle.prologue.proofs.Told.{ok_of, err_of}
use Rattle.prologue.proofs.Turns.{walk_start, walk_turn, walk_stopped, walk_ended}
use Rattle.prologue.proofs.given.FunctionRows.read_rows.Goals as goal

pub loop-i-init : goal.loop-i-init
unfolding start
loop-i-init c = rw (to_z_pos w64 {n = c.args.m.now.machine.now.pushed} (omega arith)) (walk_start c.args.m.now.machine.now _ (rows_in c.args.self.now) c.args.m.now.pushed)

pub returns-in_err-w : goal.returns-in_err-w
returns-in_err-w c =
    let p = err_from_is_err_and c.from_residual.result c.from_residual.ensures.1 in
    rw (p.1, p.2) (rw (walk_stopped c.loop-i.invariant (rw c.len-i-end.ensures at c.loop-i-test.true) (err_of _ c.in_err-w.was c.read_row.ensures)) (refl, tt))

pub loop-i-preserved : goal.loop-i-preserved
loop-i-preserved c =
    walk_turn c.loop-i.invariant (rw c.len-i-end.ensures at c.loop-i-test.true) (ok_of _ c.in_ok-w.was c.read_row.ensures) c.args.self.now.ready

pub returns : goal.returns
returns c = rw (walk_ended c.loop-i.invariant (rw c.len-i-end.ensures at c.loop-i-test.false)) (refl, c.loop-i.invariant.short)
