-- `given::Input::codes_asked` meets its contract.
use mathlib.Core.Path.{sym, ap, ◌∙◌}
use Rattle.std.proofs.lemmas.Result.{err_from_is_err_and}
use Rattle.codes.specs.Codes.{yes_or_no}
use Rattle.x64.proofs.Spans.{codes_no_is, codes_are}
use Rattle.x64.proofs.given.Input.codes_asked.Goals as goal

pub returns-in_err-p : goal.returns-in_err-p
returns-in_err-p c =
    let p = err_from_is_err_and c.from_residual.result c.from_residual.ensures.1 in
    rw (p.1, p.2) (codes_no_is c.args.self.now.source c.args.self.now.functions.now c.args.self.now.list.now c.args.k (rw c.in_err-p.was at c.span_at.ensures))

pub returns : goal.returns
returns c = let h = rw c.in_ok-p.was at c.span_at.ensures in c.prologue_no.ensures ∙ ap yes_or_no (sym (codes_are h))
