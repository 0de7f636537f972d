-- `leaving::Leaving::resumed` meets its contract.
use mathlib.Core.Path.{◌∙◌}
use Rattle.std.proofs.lemmas.Result.{err_from_is_err_and}
use Rattle.walked.proofs.Rules.{resumed_bad, resumed_good}
use Rattle.walked.proofs.leaving.Leaving.resumed.Goals as goal

pub returns-in_err-registers : goal.returns-in_err-registers
returns-in_err-registers c =
    let p = err_from_is_err_and c.from_residual.result c.from_residual.ensures.1 in
    rw (p.1, p.2) (resumed_bad _ _ _ c.in_err-registers.ensures)

pub returns : goal.returns
returns c = c.returned.ensures ∙ resumed_good _ _ _ _ c.in_ok-registers.ensures
