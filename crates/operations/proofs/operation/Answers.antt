-- `operations::operation` meets its contract.
use mathlib.Core.Path.{sym, ◌∙◌}
use native.Mathlib.Omega.{arith}
use Rattle.operations.proofs.OperandLaws.{past_end, op_extended, op_step, op_saved, op_restore}
use Rattle.operations.proofs.operation.Goals as goal

pub returns-then-s-from : goal.returns-then-s-from
returns-then-s-from c = sym (past_end c.args.word c.args.s.now c.args.at c.if-s-from.true)

pub returns-then-b-lt-DW_CFA_ADVANCE_LOC : goal.returns-then-b-lt-DW_CFA_ADVANCE_LOC
returns-then-b-lt-DW_CFA_ADVANCE_LOC c = c.extended_at.ensures ∙ sym (op_extended c.args.word c.args.s.now c.args.at c.if-s-from.false c.if-b-lt-DW_CFA_ADVANCE_LOC.true)

pub returns-then-b-lt-DW_CFA_OFFSET : goal.returns-then-b-lt-DW_CFA_OFFSET
returns-then-b-lt-DW_CFA_OFFSET c = sym (op_step c.args.word c.args.s.now c.args.at c.if-s-from.false c.if-b-lt-DW_CFA_ADVANCE_LOC.false c.if-b-lt-DW_CFA_OFFSET.true)

pub returns-then-b-lt-DW_CFA_RESTORE : goal.returns-then-b-lt-DW_CFA_RESTORE
returns-then-b-lt-DW_CFA_RESTORE c = c.saved_at.ensures ∙ sym (op_saved c.args.word c.args.s.now c.args.at c.if-s-from.false c.if-b-lt-DW_CFA_OFFSET.false c.if-b-lt-DW_CFA_RESTORE.true)

pub overflow_cast-result-2 : goal.overflow_cast-result-2
overflow_cast-result-2 c = record { fits = omega (arith, c.shared_slice_known-2-1.given c.args.at.at) }

pub returns : goal.returns
returns c = sym (op_restore c.args.word c.args.s.now c.args.at c.if-s-from.false c.if-b-lt-DW_CFA_OFFSET.false c.if-b-lt-DW_CFA_RESTORE.false)
