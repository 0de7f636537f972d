-- `reader::read` meets its contract.
use mathlib.Core.Path.{◌∙◌}
use Rattle.std.proofs.lemmas.Result.{err_from_is_err_and}
use Rattle.reader.proofs.Asked.{place_found, place_refused, located_read, refused_read}
use Rattle.reader.proofs.read.Goals as goal

pub returns-in_err-l : goal.returns-in_err-l
returns-in_err-l c =
    let p = err_from_is_err_and c.from_residual.result c.from_residual.ensures.1 in
    rw (p.1, p.2) (refused_read _ _ _ _ _ _ _ (place_refused _ _ c.in_err-l.was c.locate.ensures))

pub returns : goal.returns
returns c = c.rules_at.ensures ∙ located_read _ _ _ _ _ _ _ (place_found c.in_ok-l.was c.locate.ensures)
