-- `walk::Memory::saved` meets its contract.
use mathlib.Core.Path.{sym, ap, ◌∙◌}
use borrow.Author.Rules.{rules}
use mir.Facts.{to_z-of_z}
use Rattle.std.specs.Prelude.{Some, None}
use Rattle.format.proofs.Asked.{option_of}
use Rattle.walk.proofs.Leaves.{summed, after_none, after_is}
use Rattle.walk.specs.Walk.{sum_of}
use Rattle.walk.proofs.Memory.saved.Goals as goal

pub returns-in_err-checked_add_signed : goal.returns-in_err-checked_add_signed
returns-in_err-checked_add_signed c =
    let a = c.args in
    let e = summed a.cfa a.o None (search rules) (rw (to_z-of_z c.ranges.o) at c.in_err-checked_add_signed.ensures) in
    c.from_residual.ensures ∙ ap option_of (sym (after_none (sum_of a.cfa a.o) _ (sym e)))

pub returns : goal.returns
returns c =
    let a = c.args in
    let e = summed a.cfa a.o (Some _) (search rules) (rw (to_z-of_z c.ranges.o) at c.in_ok-checked_add_signed.ensures) in
    c.load.ensures ∙ ap option_of (sym (after_is (sum_of a.cfa a.o) _ (sym e)))
