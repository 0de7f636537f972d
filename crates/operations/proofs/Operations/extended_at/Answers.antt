-- `Operations::extended_at` meets its contract.
use mathlib.Core.Path.{sym}
use Rattle.std.proofs.Common.{rules}
use borrow.Author.Tests.{ne_eqb}
use Rattle.format.specs.Prelude.{pick}
use Rattle.format.specs.Rows.{read_extended}
use Rattle.format.specs.Shortest.{extended_operands, numbers_short}
use Rattle.operations.specs.Positions.{read_from}
use Rattle.format.specs.declared.Row.TheVariants.{RememberState, RestoreState, NegateRaState, Restore, Undefined, SameValue, DefCfaRegister}
use Rattle.format.specs.declared.Operation.TheVariants.{Nop, Does}
use Rattle.operations.specs.Reads.{read_operand, operand_number, pair_row, step_at, register_row_at, offset_row_at, pair_row_at, in_register_at, extended_at}
use Rattle.operations.proofs.OperandLaws.{here}
use Rattle.operations.proofs.Operations.extended_at.Goals as goal

pub returns-in-0 : goal.returns-in-0
unfolding extended_at read_extended extended_operands numbers_short pick
returns-in-0 c = rw c.in-0.is (sym (here c.args.self.now.bytes.now c.args.at Nop c.requires))

pub returns-in-2 : goal.returns-in-2
unfolding extended_at read_extended extended_operands numbers_short pick step_at
returns-in-2 c = rw c.in-2.is c.step_at.ensures

pub returns-in-3 : goal.returns-in-3
unfolding extended_at read_extended extended_operands numbers_short pick step_at
returns-in-3 c = rw c.in-3.is c.step_at-in-3.ensures

pub returns-in-4 : goal.returns-in-4
unfolding extended_at read_extended extended_operands numbers_short pick step_at
returns-in-4 c = rw c.in-4.is c.step_at-in-4.ensures

pub returns-in-5 : goal.returns-in-5
unfolding extended_at read_extended extended_operands numbers_short pick pair_row_at read_operand operand_number pair_row
returns-in-5 c = rw c.in-5.is (rw c.in-5.is at c.pair_row_at.ensures)

pub returns-in-6 : goal.returns-in-6
unfolding extended_at read_extended extended_operands numbers_short pick register_row_at
returns-in-6 c = rw c.in-6.is (c.register_row_at.ensures Restore (λ x v e. search rules))

pub returns-in-7 : goal.returns-in-7
unfolding extended_at read_extended extended_operands numbers_short pick register_row_at
returns-in-7 c = rw c.in-7.is (c.register_row_at-in-7.ensures Undefined (λ x v e. search rules))

pub returns-in-8 : goal.returns-in-8
unfolding extended_at read_extended extended_operands numbers_short pick register_row_at
returns-in-8 c = rw c.in-8.is (c.register_row_at-in-8.ensures SameValue (λ x v e. search rules))

pub returns-in-9 : goal.returns-in-9
unfolding extended_at read_extended extended_operands numbers_short pick in_register_at
returns-in-9 c = rw c.in-9.is c.in_register_at.ensures

pub returns-in-10 : goal.returns-in-10
unfolding extended_at read_extended extended_operands numbers_short pick
returns-in-10 c = rw c.in-10.is (sym (here c.args.self.now.bytes.now c.args.at (Does RememberState) c.requires))

pub returns-in-11 : goal.returns-in-11
unfolding extended_at read_extended extended_operands numbers_short pick
returns-in-11 c = rw c.in-11.is (sym (here c.args.self.now.bytes.now c.args.at (Does RestoreState) c.requires))

pub returns-in-12 : goal.returns-in-12
unfolding extended_at read_extended extended_operands numbers_short pick pair_row_at read_operand operand_number pair_row
returns-in-12 c = rw c.in-12.is (rw c.in-12.is at c.pair_row_at-in-12.ensures)

pub returns-in-13 : goal.returns-in-13
unfolding extended_at read_extended extended_operands numbers_short pick register_row_at
returns-in-13 c = rw c.in-13.is (c.register_row_at-in-13.ensures DefCfaRegister (λ x v e. search rules))

pub returns-in-14 : goal.returns-in-14
unfolding extended_at read_extended extended_operands numbers_short pick offset_row_at read_operand operand_number
returns-in-14 c = rw c.in-14.is (rw c.in-14.is at c.offset_row_at.ensures)

pub returns-in-17 : goal.returns-in-17
unfolding extended_at read_extended extended_operands numbers_short pick pair_row_at read_operand operand_number pair_row
returns-in-17 c = rw c.in-17.is (rw c.in-17.is at c.pair_row_at-in-17.ensures)

pub returns-in-18 : goal.returns-in-18
unfolding extended_at read_extended extended_operands numbers_short pick pair_row_at read_operand operand_number pair_row
returns-in-18 c = rw c.in-18.is (rw c.in-18.is at c.pair_row_at-in-18.ensures)

pub returns-in-19 : goal.returns-in-19
unfolding extended_at read_extended extended_operands numbers_short pick offset_row_at read_operand operand_number
returns-in-19 c = rw c.in-19.is (rw c.in-19.is at c.offset_row_at-in-19.ensures)

pub returns-in-45 : goal.returns-in-45
unfolding extended_at read_extended extended_operands numbers_short pick
returns-in-45 c = rw c.in-45.is (sym (here c.args.self.now.bytes.now c.args.at (Does NegateRaState) c.requires))

pub returns-in_default : goal.returns-in_default
unfolding extended_at read_extended extended_operands numbers_short pick read_from
returns-in_default c =
    let n = c.in_default.in_default-own.rest in
    let b = c.args.b in
    simp (ne_eqb b 0x0 n.0.0.0.0.0.0.0.0.0.0.0.0.0.0.0.0.0.1, ne_eqb b 0x2 n.0.0.0.0.0.0.0.0.0.0.0.0.0.0.0.0.1, ne_eqb b 0x3 n.0.0.0.0.0.0.0.0.0.0.0.0.0.0.0.1, ne_eqb b 0x4 n.0.0.0.0.0.0.0.0.0.0.0.0.0.0.1, ne_eqb b 0x5 n.0.0.0.0.0.0.0.0.0.0.0.0.0.1, ne_eqb b 0x6 n.0.0.0.0.0.0.0.0.0.0.0.0.1, ne_eqb b 0x7 n.0.0.0.0.0.0.0.0.0.0.0.1, ne_eqb b 0x8 n.0.0.0.0.0.0.0.0.0.0.1, ne_eqb b 0x9 n.0.0.0.0.0.0.0.0.0.1, ne_eqb b 0xa n.0.0.0.0.0.0.0.0.1, ne_eqb b 0xb n.0.0.0.0.0.0.0.1, ne_eqb b 0xc n.0.0.0.0.0.0.1, ne_eqb b 0xd n.0.0.0.0.0.1, ne_eqb b 0xe n.0.0.0.0.1, ne_eqb b 0x11 n.0.0.0.1, ne_eqb b 0x12 n.0.0.1, ne_eqb b 0x13 n.0.1, ne_eqb b 0x2d n.1)
