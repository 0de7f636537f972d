-- `reader::run::recall` meets its contract.
use mathlib.Core.Path.{refl, sym, ◌∙◌}
use native.Mathlib.Omega.{arith}
use Rattle.std.proofs.lemmas.Result.{err_from_is_err_and}
use Rattle.format.proofs.Asked.{given, lacking}
use Rattle.reader.proofs.Acting.{empty, recalled}
use Rattle.reader.proofs.run.recall.Goals as goal

pub returns-in_err-last : goal.returns-in_err-last
returns-in_err-last c =
    let p = err_from_is_err_and c.from_residual.result c.from_residual.ensures.1 in
    let n = lacking _ _ (sym c.ok_or.ensures.value ∙ c.in_err-last.was) in
    rw (p.1, p.2, sym n.1) (empty c.args.s.now (omega (arith, rw n.0 at c.checked_sub.ensures)))

pub returns : goal.returns
returns c =
    let e = rw (given _ _ (sym c.ok_or.ensures.value ∙ c.in_ok-last.was)) at c.checked_sub.ensures in
    recalled c.args.s.now _ (omega (arith, e.0)) (rw e.1) e.1 refl
