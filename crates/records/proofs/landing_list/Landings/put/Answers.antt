-- `records::landing_list::Landings::put` meets its contract.
use Rattle.format.specs.Lists.{landing_at}
use Rattle.records.specs.Sites.{sites_in}
use Rattle.records.proofs.CallSites.{start, room, turn, ended}
use Rattle.records.proofs.landing_list.Landings.put.Goals as goal

pub loop-i-init : goal.loop-i-init
unfolding sites_in
loop-i-init c = start _ _ _ _ c.requires

pub site-p-requires : goal.site-p-requires
unfolding landing_at
site-p-requires c = rw c.landing_at.ensures (room c.loop-i.invariant c.loop-i-test.true)

pub loop-i-preserved : goal.loop-i-preserved
unfolding landing_at
loop-i-preserved c = turn c.loop-i.invariant c.loop-i-test.true (rw c.landing_at.ensures at c.site-p.ensures)

pub returns : goal.returns
unfolding sites_in
returns c = ended c.loop-i.invariant c.loop-i-test.false
