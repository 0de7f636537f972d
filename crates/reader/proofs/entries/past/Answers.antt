-- `reader::entries::past` meets its contract.
use mathlib.Core.Path.{sym, ◌∙◌}
use Rattle.reader.proofs.Tiling.{ends_somewhere, ends}
use Rattle.reader.proofs.entries.past.Goals as goal

pub returns-in_default : goal.returns-in_default
returns-in_default c = absurd (ends_somewhere c.args.s.now c.args.at c.requires.0 c.requires.1 (sym c.entry_end.ensures ∙ c.in_default.is))

pub returns : goal.returns
returns c = ends c.args.s.now c.args.at c.requires.0 c.requires.1 (sym c.entry_end.ensures ∙ c.in-Some.is)
