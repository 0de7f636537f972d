-- `section_check::size_of` meets its contract.
use mathlib.Core.Path.{sym, ◌∙◌}
use Rattle.section_check.proofs.Entries.{sizeless, sized}
use Rattle.section_check.proofs.size_of.Goals as goal

pub returns-in_err-n : goal.returns-in_err-n
returns-in_err-n c = c.from_residual.ensures ∙ sizeless c.args.s.now c.args.fde.at c.args.fde.end (rw c.from.ensures at (sym c.read_le.ensures ∙ c.in_err-n.was))

pub returns : goal.returns
returns c = sized c.args.s.now c.args.fde.at c.args.fde.end (rw c.from.ensures at (sym c.read_le.ensures ∙ c.in_ok-n.was))
