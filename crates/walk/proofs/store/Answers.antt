-- `walk::store` meets its contract.
use Rattle.walk.proofs.Listing.{list_start, list_turn, list_ended}
use Rattle.walk.proofs.store.Goals as goal

pub loop-i-init : goal.loop-i-init
loop-i-init c = list_start c.args.frames.now c.args.out.now c.requires

pub loop-i-preserved : goal.loop-i-preserved
loop-i-preserved c = list_turn c.loop-i.invariant c.loop-i-test.true

pub returns : goal.returns
returns c = list_ended c.loop-i.invariant c.loop-i-test.false
