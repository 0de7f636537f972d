-- `codes::units` meets its contract.
use mathlib.Core.Path.{◌∙◌}
use Prim.Native.Nat.{◌%◌}
use borrow.Author.Tests.{ne_eqb}
use Rattle.format.specs.Prelude.{pick}
use Rattle.codes.specs.Codes.{is_near}
use Rattle.codes.proofs.Forms.{in_units}
use Rattle.codes.proofs.units.Goals as goal

pub returns-then-size-unit-ne0 : goal.returns-then-size-unit-ne0
unfolding is_near pick
returns-then-size-unit-ne0 c = simp (ne_eqb (c.args.size % c.args.unit) 0 c.if-size-unit-ne0.true)

pub returns : goal.returns
returns c = c.ok.ensures.value ∙ in_units c.args.size c.args.unit c.try_from.result c.try_from.ensures c.if-size-unit-ne0.false
