-- `codes::slot_size` meets its contract.
use mathlib.Core.Path.{◌≡◌, sym, ap, ◌∙◌}
use Prim.Native.Nat.{◌/◌}
use Rattle.std.specs.Option.{is_some}
use Rattle.format.specs.Prelude.{pick}
use Rattle.format.proofs.Choice.{is_some_picked}
use Rattle.codes.specs.Codes.{is_near}
use Rattle.codes.proofs.slot_size.Goals as goal
use Rattle.codes.proofs.slot_size.Goals.{After-is_some}

near : (c : After-is_some) → is_near c.args.unit c.args.above ≡ c.is_some.result
near c = sym (c.is_some.ensures ∙ ap is_some c.units.ensures ∙ is_some_picked (is_near c.args.unit c.args.above) (c.args.above / c.args.unit))

pub returns-then-is_some : goal.returns-then-is_some
unfolding pick
returns-then-is_some c = rw (near (goal.at.returns-then-is_some c).After-is_some ∙ c.if-is_some.true)

pub returns : goal.returns
unfolding pick
returns c = rw (near (goal.at.returns c).After-is_some ∙ c.if-is_some.false)
