-- `passed::Cleared::put_infos` meets its contract.
use mathlib.Core.Path.{refl}
use native.Mathlib.Omega.{arith}
use Rattle.x64.proofs.Results.{describing, mark_room, info_room, described, all_marked, all_described}
use Rattle.format.specs.Put.{put}
use Rattle.x64.proofs.passed.Cleared.put_infos.Goals as goal

pub loop-k-init : goal.loop-k-init
loop-k-init c = describing _ _ c.requires.0 c.requires.1

pub bounds-markers-k : goal.bounds-markers-k
bounds-markers-k c = omega (arith, mark_room c.loop-k.invariant c.loop-k-test.true)

pub describe-at-requires : goal.describe-at-requires
describe-at-requires c = rw c.passed.ensures (info_room c.loop-k.invariant c.loop-k-test.true)

pub loop-k-preserved : goal.loop-k-preserved
unfolding put
loop-k-preserved c = described c.loop-k.invariant c.loop-k-test.true (record { past = refl; stored = refl }) (rw c.passed.ensures at c.describe-at.ensures)

pub shape_of-markers : goal.shape_of-markers
shape_of-markers c = c.loop-k.invariant.marks_left.kept

pub shape_of-info : goal.shape_of-info
shape_of-info c = c.loop-k.invariant.infos_left.kept

pub returns : goal.returns
returns c = (all_marked c.loop-k.invariant c.loop-k-test.false, all_described c.loop-k.invariant c.loop-k-test.false)
