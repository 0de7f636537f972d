-- `leaving::Leaving::left` meets its contract.
use mathlib.Core.Path.{ap, ◌∙◌}
use Rattle.std.proofs.lemmas.Result.{err_from_is_err_and}
use Rattle.format.specs.Prelude.{good}
use Rattle.walked.proofs.Rules.{left_bad, left_good}
use Rattle.walked.proofs.leaving.Leaving.left.Goals as goal

pub returns-in_err-registers : goal.returns-in_err-registers
returns-in_err-registers c =
    let p = err_from_is_err_and c.from_residual.result c.from_residual.ensures.1 in
    rw (p.1, p.2) (left_bad _ _ _ _ _ c.in_err-registers.ensures)

pub returns : goal.returns
returns c = ap good c.with_stack.ensures ∙ left_good _ _ _ _ _ _ c.in_ok-registers.ensures
