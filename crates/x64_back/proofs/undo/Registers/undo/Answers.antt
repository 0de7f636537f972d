-- `x64_back::undo::Registers::undo` meets its contract.
use native.Mathlib.Omega.{arith}
use Rattle.format.specs.X64.{register_in}
use Rattle.rows.proofs.Signs.{passed}
use Rattle.x64_back.specs.Thread.{undo_code}
use Rattle.x64_back.proofs.Exits.{gives_none, gives, sum_none, sum_some, difference_none, difference_some}
use Rattle.x64_back.proofs.undo.Registers.undo.Goals as goal

pub returns-in_err-value-in-Push : goal.returns-in_err-value-in-Push
unfolding undo_code
returns-in_err-value-in-Push c = rw (c.from_residual.ensures, c.in-Push.is) (gives_none _ _ c.in_err-value-in-Push.ensures)

pub returns-in_err-above-in-Push : goal.returns-in_err-above-in-Push
unfolding undo_code
returns-in_err-above-in-Push c =
    rw (c.from_residual-in_err-above-in-Push.ensures, c.in-Push.is) (gives _ _ c.in_ok-value-in-Push.ensures (gives_none _ _ (sum_none _ _ c.in_err-above-in-Push.ensures)))

pub with_integer-requires : goal.with_integer-requires
unfolding register_in
with_integer-requires c = rw c.in-Push.is at c.requires

pub returns-in_err-above-in-Alloc : goal.returns-in_err-above-in-Alloc
unfolding undo_code
returns-in_err-above-in-Alloc c =
    let h = rw (passed c.in-Alloc.z (omega arith)) at c.size.ensures in
    rw (c.from_residual-in_err-above-in-Alloc.ensures, c.in-Alloc.is, ← h) (gives_none _ _ (sum_none _ _ c.in_err-above-in-Alloc.ensures))

pub offset_bounds-self-reg : goal.offset_bounds-self-reg
unfolding register_in
offset_bounds-self-reg c = let h = rw c.in-Frame.is at c.requires in record { fits = omega arith }

pub bounds-self-reg : goal.bounds-self-reg
unfolding register_in
bounds-self-reg c = rw c.in-Frame.is at c.requires

pub returns-in_err-before-in-Frame : goal.returns-in_err-before-in-Frame
unfolding undo_code
returns-in_err-before-in-Frame c =
    let h = rw (passed c.in-Frame.z (omega arith)) at c.size-in-Frame.ensures in
    rw (c.from_residual-in_err-before-in-Frame.ensures, c.in-Frame.is, ← h) (gives_none _ _ (difference_none _ _ c.in_err-before-in-Frame.ensures))

pub returns-in_err-at-in-Save : goal.returns-in_err-at-in-Save
unfolding undo_code
returns-in_err-at-in-Save c =
    let h = rw (passed c.in-Save.z (omega arith)) at c.size-in-Save.ensures in
    rw (c.from_residual-in_err-at-in-Save.ensures, c.in-Save.is, ← h) (gives_none _ _ (sum_none _ _ c.in_err-at-in-Save.ensures))

pub undo_save-requires : goal.undo_save-requires
unfolding register_in
undo_save-requires c = rw c.in-Save.is at c.requires

pub returns-in_ok-above-in-Push : goal.returns-in_ok-above-in-Push
unfolding undo_code
returns-in_ok-above-in-Push c =
    let s = c.in_ok-above-in-Push.ensures in
    rw c.in-Push.is
    (gives _ _ c.in_ok-value-in-Push.ensures (gives _ _ (sum_some _ _ s.0 s.1) (rw (c.with_integer-in-Push.ensures, c.with_integer.ensures))))

pub returns-in_ok-above-in-Alloc : goal.returns-in_ok-above-in-Alloc
unfolding undo_code
returns-in_ok-above-in-Alloc c =
    let s = c.in_ok-above-in-Alloc.ensures in
    let h = rw (passed c.in-Alloc.z (omega arith)) at c.size.ensures in
    rw (c.in-Alloc.is, ← h) (gives _ _ (sum_some _ _ s.0 s.1) (rw c.with_integer-in-Alloc.ensures))

pub returns-in_ok-before-in-Frame : goal.returns-in_ok-before-in-Frame
unfolding undo_code
returns-in_ok-before-in-Frame c =
    let s = c.in_ok-before-in-Frame.ensures in
    let h = rw (passed c.in-Frame.z (omega arith)) at c.size-in-Frame.ensures in
    rw (c.in-Frame.is, ← h) (gives _ _ (difference_some _ _ s.0 s.1) (rw c.with_integer-in-Frame.ensures))

pub returns-in_ok-at-in-Save : goal.returns-in_ok-at-in-Save
unfolding undo_code
returns-in_ok-at-in-Save c =
    let s = c.in_ok-at-in-Save.ensures in
    let h = rw (passed c.in-Save.z (omega arith)) at c.size-in-Save.ensures in
    rw (c.in-Save.is, ← h) (gives _ _ (sum_some _ _ s.0 s.1) c.undo_save.ensures)
