-- `records::pair_list::place_of` meets its contract.
use native.Mathlib.Nat.{add-zero}
use Rattle.format.specs.Lists.{pair_at}
use Rattle.records.proofs.pair_list.place_of.Goals as goal

pub returns : goal.returns
unfolding pair_at
returns c = rw add-zero
