-- `walk::Memory::left_by` meets its contract.
use mathlib.Core.Logic.{inl, inr}
use mathlib.Core.Path.{sym, ap, ◌∙◌}
use Rattle.std.proofs.lemmas.Result.{err_from_is_err_and}
use Rattle.format.specs.Prelude.{good}
use Rattle.format.proofs.Asked.{given, lacking}
use Rattle.walk.specs.Walk.{left_by}
use Rattle.rows.proofs.Signs.{passed}
use Rattle.walk.proofs.Leaving.{saved_none, saved_is}
use Rattle.walk.proofs.Memory.left_by.Goals as goal

pub returns-in-Unstated : goal.returns-in-Unstated
unfolding left_by
returns-in-Unstated c = elim c.in-Unstated.is [
  | inl e ↦ rw e (ap good c.slot.ensures)
  | inr e ↦ rw e (ap good c.slot.ensures)
]

pub returns-in-Undefined : goal.returns-in-Undefined
unfolding left_by
returns-in-Undefined c = rw c.in-Undefined.is

pub returns-in-InRegister : goal.returns-in-InRegister
unfolding left_by
returns-in-InRegister c = rw c.in-InRegister.is (ap good (rw c.from.ensures at c.slot-in-InRegister.ensures))

pub returns-in_err-v-in-Saved : goal.returns-in_err-v-in-Saved
unfolding left_by
returns-in_err-v-in-Saved c =
    let p = err_from_is_err_and c.from_residual.result c.from_residual.ensures.1 in
    let n = lacking _ _ (sym c.ok_or.ensures.value ∙ c.in_err-v-in-Saved.was) in
    rw (p.1, p.2, sym n.1, c.in-Saved.is) (saved_none _ _ _ (rw (passed _ c.in-Saved.known_told-in-Saved-1-own.given.0.1, n.0) at c.saved.ensures))

pub returns-in_ok-v-in-Saved : goal.returns-in_ok-v-in-Saved
unfolding left_by
returns-in_ok-v-in-Saved c =
    rw c.in-Saved.is
    (saved_is _ _ _ (rw (passed _ c.in-Saved.known_told-in-Saved-1-own.given.0.1, given _ _ (sym c.ok_or.ensures.value ∙ c.in_ok-v-in-Saved.was)) at c.saved.ensures))
