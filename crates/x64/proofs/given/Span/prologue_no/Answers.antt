-- `given::Span::prologue_no` meets its contract.
use Rattle.std.proofs.lemmas.Result.{err_from_is_err_and}
use Rattle.x64.proofs.Infos.{no_code, no_end, no_slots, no_frame}
use Rattle.x64.proofs.given.Span.prologue_no.Goals as goal

pub returns-in_err-t : goal.returns-in_err-t
returns-in_err-t c =
    let p = err_from_is_err_and c.from_residual.result c.from_residual.ensures.1 in
    rw (p.1, p.2) (no_code _ _ c.codes_summary-t.ensures c.in_err-t.was)

pub returns-then-self-gt255 : goal.returns-then-self-gt255
returns-then-self-gt255 c = no_end _ _ c.codes_summary-t.ensures c.in_ok-t.was c.if-self-gt255.true

pub returns-then-t-gt255 : goal.returns-then-t-gt255
returns-then-t-gt255 c = no_slots _ _ c.codes_summary-t.ensures c.in_ok-t.was c.if-self-gt255.false c.if-t-gt255.true

pub returns : goal.returns
returns c = no_frame _ _ c.codes_summary-t.ensures c.in_ok-t.was c.if-self-gt255.false c.if-t-gt255.false
