-- `records::landing_list::Landings::of` meets its contract.
use Rattle.records.proofs.CallSites.{part_of}
use Rattle.records.proofs.landing_list.Landings.of.Goals as goal

pub returns : goal.returns
returns c = part_of c.args.list.now c.args.e.now.landings_at c.args.e.now.landings c.requires.inside
