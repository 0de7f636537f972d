-- `reader::section::Span::distance_back` meets its contract.
use Rattle.reader.proofs.Seeking.{less_by}
use Rattle.reader.proofs.section.Span.distance_back.Goals as goal

pub returns : goal.returns
returns c = less_by c.args.s.now c.args.self.at c.args.self.end c.second-distance.ensures _ c.checked_sub.ensures
