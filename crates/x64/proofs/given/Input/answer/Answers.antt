-- `given::Input::answer` meets its contract.
use Rattle.std.proofs.lemmas.Result.{err_from_is_err_and}
use Rattle.lists.proofs.Rooms.{stays, goes}
use Rattle.format.specs.Coded.{numbered_at}
use Rattle.lists.proofs.Lent.{same}
use Rattle.x64.proofs.Writing.{agreed}
use mathlib.Core.Path.{sym, ap, ◌∙◌}
use Rattle.x64.proofs.given.Input.answer.Goals as goal

pub invariant_of-cleared : goal.invariant_of-cleared
invariant_of-cleared c = record { agreed = agreed _ _ _ _ (sym c.asks.ensures ∙ ap numbered_at c.in_ok-asks.was) }

pub returns-in_err-asks : goal.returns-in_err-asks
returns-in_err-asks c =
    let p = err_from_is_err_and c.from_residual.result c.from_residual.ensures.1 in
    rw (p.1, p.2) (stays _ _ (sym c.asks.ensures ∙ ap numbered_at c.in_err-asks.was), same)

pub returns : goal.returns
returns c = (goes _ (sym c.asks.ensures ∙ ap numbered_at c.in_ok-asks.was) c.write.ensures.0, c.write.ensures.1)
