-- `reader::entries::id_of` meets its contract.
use mathlib.Core.Path.{sym, ◌∙◌}
use Rattle.reader.proofs.Tiling.{second_is, second_none}
use Rattle.reader.proofs.entries.id_of.Goals as goal

pub returns-in_default : goal.returns-in_default
returns-in_default c = sym (second_none c.args.body.now (sym c.read_le.ensures ∙ c.in_default.is))

pub returns : goal.returns
returns c = sym (second_is c.args.body.now (sym c.read_le.ensures ∙ c.in-Some.is))
