-- `walk::returned` meets its contract.
use mathlib.Core.Path.{sym, ◌∙◌}
use Rattle.std.proofs.lemmas.Result.{err_from_is_err_and}
use Rattle.walk.proofs.Leaving.{returned_none, returned_is}
use Rattle.walk.proofs.returned.Goals as goal
use Rattle.format.proofs.Asked.{given, lacking}

pub returns-in_err-a : goal.returns-in_err-a
returns-in_err-a c =
    let p = err_from_is_err_and c.from_residual.result c.from_residual.ensures.1 in
    let n = lacking _ _ (sym c.ok_or.ensures.value ∙ c.in_err-a.was) in
    rw (p.1, p.2, sym n.1) (returned_none _ _ _ _ (rw n.0 at c.slot.ensures))

pub returns : goal.returns
returns c = returned_is _ _ _ _ (rw (given _ _ (sym c.ok_or.ensures.value ∙ c.in_ok-a.was)) at c.slot.ensures) c.unsigned.ensures
