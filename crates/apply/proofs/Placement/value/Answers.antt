-- `Placement::value` meets its contract.
use Rattle.std.proofs.Common.{rules, sym, ◌∙◌}
use Rattle.std.proofs.lemmas.Int.{to_z-of_z}
use mir.Syntax.{w128}
use mir.Val.{SFits}
use Rattle.apply.specs.Standing.{placed, meant, beside}
use Rattle.apply.proofs.Tests.{value_fitted}
use Rattle.apply.proofs.Placement.value.Goals as goal

pub returns : goal.returns
returns c =
    let a = c.args in
    let x = a.f.now.of.now in
    let z = c.in_ok-true_value.field-0 in
    let f : SFits w128 z = search rules in
    (rw (to_z-of_z w128 z f) at c.fitted.ensures) ∙ value_fitted x.kind (placed a.self.now) (meant x.reloc) (beside x.behind) z (sym c.in_ok-true_value.was ∙ c.true_value.ensures)
