-- `walk::held` meets its contract.
use mathlib.Core.Path.{sym, ap, ◌∙◌}
use Rattle.walk.proofs.Leaves.{after_none, after_is}
use Rattle.walk.specs.Standing.{holder_of}
use Rattle.walk.specs.Walk.{looked_up}
use Rattle.walk.proofs.held.Goals as goal

pub returns-in_err-looked_up : goal.returns-in_err-looked_up
returns-in_err-looked_up c = c.from_residual.ensures ∙ ap holder_of (sym (after_none (looked_up c.args.exact c.args.pc) _ (sym c.in_err-looked_up.ensures)))

pub returns : goal.returns
returns c = c.holder_of.ensures ∙ ap holder_of (sym (after_is (looked_up c.args.exact c.args.pc) _ (sym c.in_ok-looked_up.ensures)))
