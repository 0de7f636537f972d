-- `arm64_back::write_and_read` meets its contract.
use mathlib.Core.Path.{sym, ◌∙◌}
use Rattle.arm64_back.proofs.Together.{row_there, function_back, no_row, one_row}
use Rattle.arm64_back.proofs.write_and_read.Goals as goal

pub returns-then-not-has_row : goal.returns-then-not-has_row
returns-then-not-has_row c =
    let w = c.table-outcome.ensures in
    let a = c.args in
    let r = no_row _ _ _ _ a.k a.placed a.read_epilogues.now a.read_codes.now (sym c.has_row.ensures ∙ c.if-not-has_row.true) in
    record { writes = w; row_read = r; function_back = function_back _ _ _ _ _ _ _ w _ _ r }

pub finished_word-word-requires : goal.finished_word-word-requires
finished_word-word-requires c = row_there _ _ _ _ _ _ _ c.table-outcome.ensures _ (sym c.has_row.ensures ∙ c.if-not-has_row.false)

pub marker_at-place-requires : goal.marker_at-place-requires
marker_at-place-requires c = (row_there _ _ _ _ _ _ _ c.table-outcome.ensures _ (sym c.has_row.ensures ∙ c.if-not-has_row.false)).0

pub returns : goal.returns
returns c =
    let w = c.table-outcome.ensures in
    let a = c.args in
    let x = c.unwind_read_arm64-answer.ensures in
    let r = one_row _ _ _ _ a.k a.placed a.read_epilogues.now a.read_codes.now (sym c.has_row.ensures ∙ c.if-not-has_row.false) c.finished_word-word.ensures c.marker_at-place.ensures
    (record { reading = x.value; epilogues = x.epilogues_after; codes = x.codes_after }) in
    record { writes = w; row_read = r; function_back = function_back _ _ _ _ _ _ _ w _ _ r }
