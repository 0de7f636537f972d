-- `walk::frame_address` meets its contract.
use mathlib.Core.Path.{sym, ◌∙◌}
use Rattle.std.proofs.lemmas.Result.{err_from_is_err_and}
use Rattle.rows.proofs.Signs.{passed}
use Rattle.walk.proofs.Leaving.{address_unset, address_absent, address_at}
use Rattle.walk.proofs.Leaves.{summed}
use borrow.Author.Rules.{rules}
use Rattle.walk.proofs.frame_address.Goals as goal
use Rattle.format.proofs.Asked.{given, lacking}

pub returns-in_default : goal.returns-in_default
returns-in_default c = address_unset _ c.in_default.is

pub returns-in_err-a : goal.returns-in_err-a
returns-in_err-a c =
    let p = err_from_is_err_and c.from_residual.result c.from_residual.ensures.1 in
    let n = lacking _ _ (sym c.ok_or.ensures.value ∙ c.in_err-a.was) in
    rw (p.1, p.2, sym n.1) (address_absent _ c.in-Register.is (rw (c.from.ensures, n.0) at c.slot.ensures))

pub returns : goal.returns
returns c =
    rw c.ok_or-2.ensures.value
    (address_at _ c.in-Register.is (rw (c.from.ensures, given _ _ (sym c.ok_or.ensures.value ∙ c.in_ok-a.was)) at c.slot.ensures) (summed _ _ _ (search rules) (rw (passed _ c.in-Register.known_told-1-own.given.1.0.1) at c.checked_add_signed.ensures)))
