-- `records::landing_list::Landings::size` meets its contract.
use native.Mathlib.Omega.{arith}
use Rattle.format.specs.Lists.{landing_at}
use Rattle.records.specs.Sites.{sites_in}
use Rattle.records.proofs.CallSites.{start_count, turn_count, count_small, ended_count}
use Rattle.records.proofs.landing_list.Landings.size.Goals as goal

pub loop-i-init : goal.loop-i-init
loop-i-init c = start_count _ _

pub overflow_add-size : goal.overflow_add-size
unfolding landing_at
overflow_add-size c = omega (arith, count_small c.loop-i.invariant c.loop-i-test.true (rw c.landing_at.ensures at c.site_size-size.ensures) c.args.self.now.few)

pub loop-i-preserved : goal.loop-i-preserved
unfolding landing_at
loop-i-preserved c = turn_count c.loop-i.invariant c.loop-i-test.true (rw c.landing_at.ensures at c.site_size-size.ensures)

pub returns : goal.returns
unfolding sites_in
returns c = ended_count c.loop-i.invariant c.loop-i-test.false
