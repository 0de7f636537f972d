-- `given::Input::span_at` meets its contract.
use Rattle.x64.proofs.given.Input.span_at.Goals as goal

pub returns-in-Direct : goal.returns-in-Direct
returns-in-Direct c = simp c.in-Direct.is c.direct_span.ensures

pub returns-in-Rows : goal.returns-in-Rows
returns-in-Rows c = simp c.in-Rows.is c.rows_span.ensures
