-- `rows::row_numbers::RowNumbers::put` meets its contract.
use mathlib.Core.Path.{ap, ◌∙◌}
use native.Mathlib.Omega.{arith}
use lib.ListN.{length-append}
use borrow.Author.Rules.{rules}
use Rattle.format.specs.Rows.{factor}
use Rattle.format.proofs.ListLaws.{row_numbers}
use Rattle.rows.proofs.Signs.{passed}
use Rattle.rows.proofs.Numbers.{bytes_0, bytes_1, bytes_2, bytes_3, bytes_4, bytes_5, bytes_6, bytes_7, bytes_9, bytes_10, bytes_rest}
use Rattle.rows.proofs.row_numbers.RowNumbers.put.Goals as goal

pub overflow_cast-g : goal.overflow_cast-g
overflow_cast-g c = record { fits = (row_numbers c.args.self.kind c.args.self.register c.args.self.operand c.args.self.ok).reg_low }

pub signed32-z-requires : goal.signed32-z-requires
signed32-z-requires c = (row_numbers c.args.self.kind c.args.self.register c.args.self.operand c.args.self.ok).off_low

pub named-requires : goal.named-requires
named-requires c = let h = rw (bytes_2 c.args.word.bytes c.args.self.register c.args.self.operand c.in-2.is) at c.requires in search rules

pub saved-requires : goal.saved-requires
saved-requires c = rw (passed c.factored.result c.factored.type_inv ∙ c.factored.ensures ∙ ap (factor c.args.word.bytes) (passed c.signed32-z.result c.signed32-z.type_inv ∙ c.signed32-z.ensures)) (rw (bytes_3 c.args.word.bytes c.args.self.register c.args.self.operand c.in-3.is) at c.requires)

pub opcode-requires : goal.opcode-requires
opcode-requires c = (omega arith, rw (bytes_4 c.args.word.bytes c.args.self.register c.args.self.operand c.in-4.is) at c.requires)

pub named-requires-in-5 : goal.named-requires-in-5
named-requires-in-5 c = let h = rw (bytes_5 c.args.word.bytes c.args.self.register c.args.self.operand c.in-5.is) at c.requires in search rules

pub byte-requires : goal.byte-requires
byte-requires c = let h = rw (bytes_6 c.args.word.bytes c.args.self.register c.args.self.operand c.in-6.is) at c.requires in search rules

pub byte-requires-in-7 : goal.byte-requires-in-7
byte-requires-in-7 c = let h = rw (bytes_7 c.args.word.bytes c.args.self.register c.args.self.operand c.in-7.is) at c.requires in search rules

pub named-requires-in-9 : goal.named-requires-in-9
named-requires-in-9 c = let h = rw (bytes_9 c.args.word.bytes c.args.self.register c.args.self.operand c.in-9.is) at c.requires in search rules

pub overflow_cast-self : goal.overflow_cast-self
overflow_cast-self c = record { fits = (row_numbers c.args.self.kind c.args.self.register c.args.self.operand c.args.self.ok).other_low c.in-10.is }

pub in_register-requires : goal.in_register-requires
in_register-requires c = let h = simp length-append at (rw (bytes_10 c.args.word.bytes c.args.self.register c.args.self.operand c.in-10.is) at c.requires) in search rules

pub byte-requires-in_default : goal.byte-requires-in_default
byte-requires-in_default c = let h = rw (bytes_rest c.args.word.bytes c.args.self.register c.args.self.operand c.in_default.in_default-own.rest.0.0.0.0.0.0.0.0.0.1 c.in_default.in_default-own.rest.0.0.0.0.0.0.0.0.1 c.in_default.in_default-own.rest.0.0.0.0.0.0.0.1 c.in_default.in_default-own.rest.0.0.0.0.0.0.1 c.in_default.in_default-own.rest.0.0.0.0.0.1 c.in_default.in_default-own.rest.0.0.0.0.1 c.in_default.in_default-own.rest.0.0.0.1 c.in_default.in_default-own.rest.0.0.1 c.in_default.in_default-own.rest.0.1 c.in_default.in_default-own.rest.1) at c.requires in search rules

pub returns-in-2 : goal.returns-in-2
returns-in-2 c = rw (bytes_2 c.args.word.bytes c.args.self.register c.args.self.operand c.in-2.is) c.named.ensures

pub returns-in-3 : goal.returns-in-3
returns-in-3 c = rw (bytes_3 c.args.word.bytes c.args.self.register c.args.self.operand c.in-3.is) (rw (passed c.factored.result c.factored.type_inv ∙ c.factored.ensures ∙ ap (factor c.args.word.bytes) (passed c.signed32-z.result c.signed32-z.type_inv ∙ c.signed32-z.ensures)) at c.saved.ensures)

pub returns-in-4 : goal.returns-in-4
returns-in-4 c = rw (bytes_4 c.args.word.bytes c.args.self.register c.args.self.operand c.in-4.is) c.opcode.ensures

pub returns-in-5 : goal.returns-in-5
returns-in-5 c = rw (bytes_5 c.args.word.bytes c.args.self.register c.args.self.operand c.in-5.is) c.named-in-5.ensures

pub returns-in-6 : goal.returns-in-6
returns-in-6 c = rw (bytes_6 c.args.word.bytes c.args.self.register c.args.self.operand c.in-6.is) c.byte.ensures

pub returns-in-7 : goal.returns-in-7
returns-in-7 c = rw (bytes_7 c.args.word.bytes c.args.self.register c.args.self.operand c.in-7.is) c.byte-in-7.ensures

pub returns-in-9 : goal.returns-in-9
returns-in-9 c = rw (bytes_9 c.args.word.bytes c.args.self.register c.args.self.operand c.in-9.is) c.named-in-9.ensures

pub returns-in-10 : goal.returns-in-10
returns-in-10 c = rw (bytes_10 c.args.word.bytes c.args.self.register c.args.self.operand c.in-10.is) c.in_register.ensures

pub returns-in_default : goal.returns-in_default
returns-in_default c = rw (bytes_rest c.args.word.bytes c.args.self.register c.args.self.operand c.in_default.in_default-own.rest.0.0.0.0.0.0.0.0.0.1 c.in_default.in_default-own.rest.0.0.0.0.0.0.0.0.1 c.in_default.in_default-own.rest.0.0.0.0.0.0.0.1 c.in_default.in_default-own.rest.0.0.0.0.0.0.1 c.in_default.in_default-own.rest.0.0.0.0.0.1 c.in_default.in_default-own.rest.0.0.0.0.1 c.in_default.in_default-own.rest.0.0.0.1 c.in_default.in_default-own.rest.0.0.1 c.in_default.in_default-own.rest.0.1 c.in_default.in_default-own.rest.1) c.byte-in_default.ensures

pub def_cfa-requires : goal.def_cfa-requires
def_cfa-requires c = (rw (passed c.signed32-z.result c.signed32-z.type_inv ∙ c.signed32-z.ensures) (rw (bytes_0 c.args.word.bytes c.args.self.register c.args.self.operand c.in-0.is) at c.requires))

pub def_cfa_offset-requires : goal.def_cfa_offset-requires
def_cfa_offset-requires c = (rw (passed c.signed32-z.result c.signed32-z.type_inv ∙ c.signed32-z.ensures) (rw (bytes_1 c.args.word.bytes c.args.self.register c.args.self.operand c.in-1.is) at c.requires))

pub returns-in-0 : goal.returns-in-0
returns-in-0 c = rw (bytes_0 c.args.word.bytes c.args.self.register c.args.self.operand c.in-0.is) (rw (passed c.signed32-z.result c.signed32-z.type_inv ∙ c.signed32-z.ensures) at c.def_cfa.ensures)

pub returns-in-1 : goal.returns-in-1
returns-in-1 c = rw (bytes_1 c.args.word.bytes c.args.self.register c.args.self.operand c.in-1.is) (rw (passed c.signed32-z.result c.signed32-z.type_inv ∙ c.signed32-z.ensures) at c.def_cfa_offset.ensures)
