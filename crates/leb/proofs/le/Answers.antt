-- `le` stores a field.
use mathlib.Core.Path.{◌≡◌}
use Prim.Native.Nat.{◌+◌, ◌-◌}
use native.Mathlib.Omega.{arith}
use Rattle.format.proofs.LebBack.{little-length}
use Rattle.format.proofs.Storing.{start, turn, ended}
use Rattle.leb.proofs.Fields.{little_done, little_more}
use Rattle.leb.proofs.le.Goals as goal

pub loop-i-init : goal.loop-i-init
loop-i-init c =
    let e : c.args.at + c.args.n - c.args.at ≡ c.args.n = omega arith in
    rw e (start (omega (arith, little-length c.args.n c.args.v)))

pub loop-i-preserved : goal.loop-i-preserved
loop-i-preserved c =
    turn (rw (little_more (c.args.at + c.args.n - c.loop-i.i) (c.args.at + c.args.n - (c.loop-i.i + 1)) c.loop-i.x (omega arith)) at c.loop-i.invariant)

pub bounds-out-i : goal.bounds-out-i
bounds-out-i c = omega (arith, c.loop-i.invariant.kept)

pub returns : goal.returns
returns c =
    let e : c.args.at + c.args.n ≡ c.loop-i.i = omega arith in
    rw e (ended (rw (little_done (c.args.at + c.args.n - c.loop-i.i) c.loop-i.x (omega arith)) at c.loop-i.invariant))
