-- `records::pair_list::Pairs::pair` meets its contract.
use native.Mathlib.Omega.{arith}
use Rattle.format.specs.Lists.{pair_at}
use Rattle.records.specs.Labels.{found_pair, pair_between}
use Rattle.records.proofs.PairOrder.{none_behind, found_there, absent_there}
use Rattle.records.proofs.pair_list.Pairs.pair.Goals as goal

pub returns-then-count-self : goal.returns-then-count-self
unfolding found_pair pair_between
returns-then-count-self c = none_behind c.args.to (c.parts.ensures c.if-not-parts.false) (omega (arith, c.count.ensures, c.if-count-self.true))

pub returns-then-serves : goal.returns-then-serves
unfolding found_pair pair_between pair_at
returns-then-serves c =
    rw c.pair_at.ensures (found_there c.args.to (c.parts.ensures c.if-not-parts.false) (omega (arith, c.count.ensures, c.if-count-self.false)) c.serves.ensures c.if-serves.true)

pub returns : goal.returns
unfolding found_pair pair_between
returns c = absent_there c.args.to (c.parts.ensures c.if-not-parts.false) (omega (arith, c.count.ensures, c.if-count-self.false)) c.serves.ensures c.if-serves.false
