-- `reader::run::restore` meets its contract.
use mathlib.Core.Path.{sym, ap, ◌∙◌}
use Rattle.std.proofs.lemmas.Result.{err_from_is_err_and}
use Rattle.format.specs.Prelude.{good}
use Rattle.format.proofs.Asked.{given, lacking}
use Rattle.reader.specs.OneRegister.{restored}
use Rattle.reader.proofs.run.restore.Goals as goal

pub returns-in_err-rule : goal.returns-in_err-rule
unfolding restored
returns-in_err-rule c =
    let p = err_from_is_err_and c.from_residual.result c.from_residual.ensures.1 in
    let n = lacking _ _ (sym c.ok_or.ensures.value ∙ c.in_err-rule.was) in
    rw (p.1, p.2, n.0, sym n.1)

pub returns : goal.returns
unfolding restored
returns c = rw (given _ _ (sym c.ok_or.ensures.value ∙ c.in_ok-rule.was)) (ap good (sym c.set_rule.ensures))
