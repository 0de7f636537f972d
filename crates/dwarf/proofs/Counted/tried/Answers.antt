-- `dwarf::Counted::tried` meets its contract.
use Rattle.dwarf.proofs.Surveying.{few_of}
use Rattle.dwarf.proofs.Counted.tried.Goals as goal

pub ample-requires : goal.ample-requires
ample-requires c = few_of _ c.args.self.now.sums

pub returns-then-ample : goal.returns-then-ample
returns-then-ample c = (tt, c.requires.enough)

pub survey-requires : goal.survey-requires
survey-requires c = c.requires

pub returns : goal.returns
returns c = c.survey.ensures
