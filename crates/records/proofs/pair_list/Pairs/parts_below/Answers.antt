-- `records::pair_list::Pairs::parts_below` meets its contract.
use Rattle.records.proofs.PairOrder.{below_is}
use Rattle.records.proofs.pair_list.Pairs.parts_below.Goals as goal

pub returns : goal.returns
returns c = λ p q. below_is c.place_of.ensures p
