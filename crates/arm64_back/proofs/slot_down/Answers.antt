-- `arm64_back::slot_down` meets its contract.
use mathlib.Core.Path.{sym, ap, ◌∙◌}
use Rattle.format.proofs.Asked.{none_is, value_is}
use Rattle.arm64_back.specs.Down.{slot_down}
use Rattle.arm64_back.proofs.slot_down.Goals as goal

pub returns-in-Some : goal.returns-in-Some
unfolding slot_down
returns-in-Some c = c.down_by.ensures ∙ ap slot_down (sym (value_is _ (sym c.slot_at.ensures ∙ c.in-Some.is)))

pub returns-in-None : goal.returns-in-None
unfolding slot_down
returns-in-None c = ap slot_down (sym (none_is _ (sym c.slot_at.ensures ∙ c.in-None.is)))
