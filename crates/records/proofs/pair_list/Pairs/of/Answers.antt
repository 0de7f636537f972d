-- `records::pair_list::Pairs::of` meets its contract.
use Rattle.records.proofs.LabelLaws.{pairs_part}
use Rattle.records.proofs.pair_list.Pairs.of.Goals as goal

pub returns-clause-pairs : goal.returns-clause-pairs
returns-clause-pairs c = pairs_part c.args.list.now c.args.l.now.pairs_at c.args.l.now.pairs c.requires.inside
