-- `owners::owners` meets its contract.
use Rattle.header_keys.specs.Inputs.{inputs_of}
use Rattle.owners.proofs.Lent.{same, followed}
use Rattle.owners.proofs.OwnerLoop.{start, fewer, room, so_far, turn, ended}
use Rattle.owners.proofs.owners.Goals as goal

pub loop-k-init : goal.loop-k-init
loop-k-init c = (start (inputs_of c.args.x.now) c.requires.1, same)

pub find_owner-requires : goal.find_owner-requires
find_owner-requires c =
    let g = c.loop-k.invariant.0 in
    let h = c.loop-k-test.true in
    (fewer g h c.requires.0, room g h, so_far g h)

pub loop-k-preserved : goal.loop-k-preserved
loop-k-preserved c =
    let e = c.find_owner.ensures in
    (turn c.loop-k.invariant.0 c.loop-k-test.true (e.0, e.1.links_long, e.1.owners_long), followed c.loop-k.invariant.1 e.1)

pub returns : goal.returns
returns c = (ended c.loop-k.invariant.0 c.loop-k-test.false, c.loop-k.invariant.1)
