-- `records::surveyed_row` meets its contract.
use native.Mathlib.Omega.{arith}
use Rattle.records.proofs.SurveyLoops.{row_small, row_passed}
use Rattle.records.proofs.surveyed_row.Goals as goal

pub returns : goal.returns
returns c =
    let q = c.in_ok-row.ensures in
    let d = c.in_ok-step.ensures in (
      omega (arith, d.2, row_small c.args.word c.args.from c.args.rows.now c.args.i q),
      row_passed c.args.word c.args.from c.args.rows.now c.args.i q c.offset_at-to.ensures c.if-to-from.false d.0 d.1,
    )

pub overflow_add-result : goal.overflow_add-result
overflow_add-result c =
    let q = c.in_ok-row.ensures in
    let d = c.in_ok-step.ensures in
    record { fits = omega (arith, d.2, row_small c.args.word c.args.from c.args.rows.now c.args.i q) }
