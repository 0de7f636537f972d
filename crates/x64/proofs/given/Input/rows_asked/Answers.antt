-- `given::Input::rows_asked` meets its contract.
use Rattle.std.proofs.lemmas.Result.{err_from_is_err_and}
use Rattle.x64.proofs.Spans.{rows_no_is, rows_yes}
use Rattle.x64.proofs.given.Input.rows_asked.Goals as goal

pub returns-in_err-span_at : goal.returns-in_err-span_at
returns-in_err-span_at c =
    let p = err_from_is_err_and c.from_residual.result c.from_residual.ensures.1 in
    rw (p.1, p.2) (rows_no_is c.args.self.now.source c.args.self.now.functions.now c.args.self.now.list.now c.args.k (rw c.in_err-span_at.was at c.span_at.ensures))

pub returns : goal.returns
returns c = rows_yes (rw c.in_ok-span_at.was at c.span_at.ensures)
