-- `x64_back::undo::Registers::undo_save` meets its contract.
use Rattle.x64_back.specs.Thread.{undo_save}
use Rattle.x64_back.proofs.Exits.{low_none, gives_none, gives, sum_none, sum_some}
use Rattle.x64_back.proofs.undo.Registers.undo_save.Goals as goal

pub returns-in_err-low : goal.returns-in_err-low
returns-in_err-low c = rw c.from_residual.ensures (low_none _ _ _ _ _ c.in_err-low.ensures)

pub returns-then-not-vector : goal.returns-then-not-vector
unfolding undo_save
returns-then-not-vector c =
    rw c.if-not-vector.true (gives _ _ c.in_ok-low.ensures (rw c.with_integer.ensures))

pub returns-in_err-above : goal.returns-in_err-above
unfolding undo_save
returns-in_err-above c =
    rw (c.from_residual-in_err-above.ensures, c.if-not-vector.false) (gives _ _ c.in_ok-low.ensures (gives_none _ _ (sum_none _ _ c.in_err-above.ensures)))

pub returns-in_err-high : goal.returns-in_err-high
unfolding undo_save
returns-in_err-high c =
    rw (c.from_residual-in_err-high.ensures, c.if-not-vector.false)
    (gives _ _ c.in_ok-low.ensures (gives _ _ (sum_some _ _ c.in_ok-above.ensures.0 c.in_ok-above.ensures.1) (gives_none _ _ c.in_err-high.ensures)))

pub returns : goal.returns
unfolding undo_save
returns c =
    rw c.if-not-vector.false
    (gives _ _ c.in_ok-low.ensures (gives _ _ (sum_some _ _ c.in_ok-above.ensures.0 c.in_ok-above.ensures.1) (gives _ _ c.in_ok-high.ensures (rw c.with_halves.ensures))))
