-- `codes::slot_in` meets its contract.
use mathlib.Core.Path.{sym, ◌∙◌}
use Prim.Native.Nat.{◌/◌}
use Rattle.codes.specs.Codes.{is_near}
use Rattle.codes.proofs.Forms.{slot_near, slot_far}
use Rattle.codes.proofs.slot_in.Goals as goal
use Rattle.format.proofs.Choice.{some_picked, none_picked}

pub returns-in-Some : goal.returns-in-Some
returns-in-Some c =
    let a = c.args in
    let h = some_picked (is_near a.unit a.above) (a.above / a.unit) (sym c.units.ensures ∙ c.in-Some.is) in
    rw (slot_near a.near a.unit a.at a.reg a.above h.0) (rw (c.from.ensures ∙ h.1) at c.form.ensures)

pub returns : goal.returns
returns c =
    let a = c.args in
    let h = none_picked (is_near a.unit a.above) (a.above / a.unit) (sym c.units.ensures ∙ c.in_default.is) in
    rw (slot_far a.near a.unit a.at a.reg a.above h) c.form-2.ensures
