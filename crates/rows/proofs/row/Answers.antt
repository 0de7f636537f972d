-- `rows::row` meets its contract.
use mathlib.Core.Path.{ap, ◌∙◌}
use native.Mathlib.Omega.{arith}
use lib.ListN.{length-append}
use borrow.Author.Rules.{rules}
use Rattle.format.specs.Rows.{factor, row_bytes}
use Rattle.rows.proofs.Signs.{passed}
use Rattle.rows.proofs.row.Goals as goal

pub def_cfa-requires : goal.def_cfa-requires
unfolding row_bytes
def_cfa-requires c = rw (passed c.in-DefCfa.z (omega (arith, c.in-DefCfa.known_told-1-own.given))) (rw c.in-DefCfa.is at c.requires)

pub def_cfa_offset-requires : goal.def_cfa_offset-requires
unfolding row_bytes
def_cfa_offset-requires c = rw (passed c.in-DefCfaOffset.z (omega (arith, c.in-DefCfaOffset.known_told-in-DefCfaOffset-1-own.given))) (rw c.in-DefCfaOffset.is at c.requires)

pub named-requires : goal.named-requires
unfolding row_bytes
named-requires c = let h = rw c.in-DefCfaRegister.is at c.requires in search rules

pub saved-requires : goal.saved-requires
unfolding row_bytes
saved-requires c = rw (passed c.factored.result c.factored.type_inv ∙ c.factored.ensures ∙ ap (factor c.args.word.bytes) (passed c.in-Offset.z (omega (arith, c.in-Offset.known_told-in-Offset-1-own.given)))) (rw c.in-Offset.is at c.requires)

pub opcode-requires : goal.opcode-requires
unfolding row_bytes
opcode-requires c = (omega arith, rw c.in-Restore.is at c.requires)

pub named-requires-in-Undefined : goal.named-requires-in-Undefined
unfolding row_bytes
named-requires-in-Undefined c = let h = rw c.in-Undefined.is at c.requires in search rules

pub byte-requires : goal.byte-requires
unfolding row_bytes
byte-requires c = let h = rw c.in-RememberState.is at c.requires in search rules

pub byte-requires-in-RestoreState : goal.byte-requires-in-RestoreState
unfolding row_bytes
byte-requires-in-RestoreState c = let h = rw c.in-RestoreState.is at c.requires in search rules

pub byte-requires-in-NegateRaState : goal.byte-requires-in-NegateRaState
unfolding row_bytes
byte-requires-in-NegateRaState c = let h = rw c.in-NegateRaState.is at c.requires in search rules

pub named-requires-in-SameValue : goal.named-requires-in-SameValue
unfolding row_bytes
named-requires-in-SameValue c = let h = rw c.in-SameValue.is at c.requires in search rules

pub in_register-requires : goal.in_register-requires
unfolding row_bytes
in_register-requires c = let h = simp length-append at (rw c.in-InRegister.is at c.requires) in search rules

pub returns-in-DefCfa : goal.returns-in-DefCfa
unfolding row_bytes
returns-in-DefCfa c = rw c.in-DefCfa.is (rw (passed c.in-DefCfa.z (omega (arith, c.in-DefCfa.known_told-1-own.given))) at c.def_cfa.ensures)

pub returns-in-DefCfaOffset : goal.returns-in-DefCfaOffset
unfolding row_bytes
returns-in-DefCfaOffset c = rw c.in-DefCfaOffset.is (rw (passed c.in-DefCfaOffset.z (omega (arith, c.in-DefCfaOffset.known_told-in-DefCfaOffset-1-own.given))) at c.def_cfa_offset.ensures)

pub returns-in-DefCfaRegister : goal.returns-in-DefCfaRegister
unfolding row_bytes
returns-in-DefCfaRegister c = rw c.in-DefCfaRegister.is c.named.ensures

pub returns-in-Offset : goal.returns-in-Offset
unfolding row_bytes
returns-in-Offset c = rw c.in-Offset.is (rw (passed c.factored.result c.factored.type_inv ∙ c.factored.ensures ∙ ap (factor c.args.word.bytes) (passed c.in-Offset.z (omega (arith, c.in-Offset.known_told-in-Offset-1-own.given)))) at c.saved.ensures)

pub returns-in-Restore : goal.returns-in-Restore
unfolding row_bytes
returns-in-Restore c = rw c.in-Restore.is c.opcode.ensures

pub returns-in-Undefined : goal.returns-in-Undefined
unfolding row_bytes
returns-in-Undefined c = rw c.in-Undefined.is c.named-in-Undefined.ensures

pub returns-in-RememberState : goal.returns-in-RememberState
unfolding row_bytes
returns-in-RememberState c = rw c.in-RememberState.is c.byte.ensures

pub returns-in-RestoreState : goal.returns-in-RestoreState
unfolding row_bytes
returns-in-RestoreState c = rw c.in-RestoreState.is c.byte-in-RestoreState.ensures

pub returns-in-NegateRaState : goal.returns-in-NegateRaState
unfolding row_bytes
returns-in-NegateRaState c = rw c.in-NegateRaState.is c.byte-in-NegateRaState.ensures

pub returns-in-SameValue : goal.returns-in-SameValue
unfolding row_bytes
returns-in-SameValue c = rw c.in-SameValue.is c.named-in-SameValue.ensures

pub returns-in-InRegister : goal.returns-in-InRegister
unfolding row_bytes
returns-in-InRegister c = rw c.in-InRegister.is c.in_register.ensures
