-- `rows::row_size` meets its contract.
use mathlib.Core.Path.{sym, ap, ◌∙◌}
use mathlib.Core.List.{[]}
use native.Mathlib.Omega.{arith}
use lib.ListN.{length-append}
use borrow.Author.Rules.{rules}
use Rattle.format.specs.Leb.{uleb}
use Rattle.format.specs.Rows.{factor, row_bytes}
use Rattle.rows.proofs.Signs.{passed}
use Rattle.rows.proofs.Bytes.{uleb_ten, register-length}
use Rattle.rows.proofs.Factors.{frame_bytes, offset_ten}
use Rattle.rows.proofs.row_size.Goals as goal

pub overflow_add-result : goal.overflow_add-result
overflow_add-result c = omega (arith, uleb_ten c.from.result (omega (arith, c.from.ensures, c.in-DefCfa.known_told-1-own.given)))

pub overflow_add-result-in-DefCfa : goal.overflow_add-result-in-DefCfa
overflow_add-result-in-DefCfa c =
    let h = rw (passed c.in-DefCfa.z (omega (arith, c.in-DefCfa.known_told-1-own.given))) at c.frame_offset_size.ensures in
    omega (arith, uleb_ten c.from.result (omega (arith, c.from.ensures, c.in-DefCfa.known_told-1-own.given)), offset_ten c.args.word.bytes c.in-DefCfa.z c.args.word.small.0 (omega (arith, c.in-DefCfa.known_told-1-own.given)))

pub overflow_add-result-in-DefCfaOffset : goal.overflow_add-result-in-DefCfaOffset
overflow_add-result-in-DefCfaOffset c =
    let h = rw (passed c.in-DefCfaOffset.z (omega (arith, c.in-DefCfaOffset.known_told-in-DefCfaOffset-1-own.given))) at c.frame_offset_size-in-DefCfaOffset.ensures in
    omega (arith, offset_ten c.args.word.bytes c.in-DefCfaOffset.z c.args.word.small.0 (omega (arith, c.in-DefCfaOffset.known_told-in-DefCfaOffset-1-own.given)))

pub overflow_add-result-in-DefCfaRegister : goal.overflow_add-result-in-DefCfaRegister
overflow_add-result-in-DefCfaRegister c = omega (arith, uleb_ten c.from-in-DefCfaRegister.result (omega (arith, c.from-in-DefCfaRegister.ensures, c.in-DefCfaRegister.known_told-in-DefCfaRegister-1-own.given)))

pub overflow_add-result-in-Undefined : goal.overflow_add-result-in-Undefined
overflow_add-result-in-Undefined c = omega (arith, uleb_ten c.from-in-Undefined.result (omega (arith, c.from-in-Undefined.ensures, c.in-Undefined.known_told-in-Undefined-1-own.given)))

pub overflow_add-result-in-SameValue : goal.overflow_add-result-in-SameValue
overflow_add-result-in-SameValue c = omega (arith, uleb_ten c.from-in-SameValue.result (omega (arith, c.from-in-SameValue.ensures, c.in-SameValue.known_told-in-SameValue-1-own.given)))

pub overflow_add-result-in-InRegister : goal.overflow_add-result-in-InRegister
overflow_add-result-in-InRegister c = omega (arith, uleb_ten c.from-in-InRegister.result (omega (arith, c.from-in-InRegister.ensures, c.in-InRegister.known_told-in-InRegister-1-own.given)))

pub overflow_add-result-in-InRegister-2 : goal.overflow_add-result-in-InRegister-2
overflow_add-result-in-InRegister-2 c =
    let k = c.in-InRegister.known_told-in-InRegister-1-own.given in
    omega (arith, uleb_ten c.from-in-InRegister.result (omega (arith, c.from-in-InRegister.ensures, k)), uleb_ten c.from-in-InRegister-2.result (omega (arith, c.from-in-InRegister-2.ensures, k)))

pub returns-in-DefCfa : goal.returns-in-DefCfa
unfolding row_bytes
returns-in-DefCfa c =
    let h = rw (passed c.in-DefCfa.z (omega (arith, c.in-DefCfa.known_told-1-own.given))) at c.frame_offset_size.ensures in
    let g = rw c.from.ensures at c.uleb_size.ensures in
    rw c.in-DefCfa.is (simp (frame_bytes c.args.word.bytes 0x0c 0x12 (uleb c.in-DefCfa.reg) c.in-DefCfa.z, length-append) (search rules))

pub returns-in-DefCfaOffset : goal.returns-in-DefCfaOffset
unfolding row_bytes
returns-in-DefCfaOffset c =
    let h = rw (passed c.in-DefCfaOffset.z (omega (arith, c.in-DefCfaOffset.known_told-in-DefCfaOffset-1-own.given))) at c.frame_offset_size-in-DefCfaOffset.ensures in
    rw c.in-DefCfaOffset.is (rw (frame_bytes c.args.word.bytes 0x0e 0x13 [] c.in-DefCfaOffset.z) (search rules))

pub returns-in-DefCfaRegister : goal.returns-in-DefCfaRegister
unfolding row_bytes
returns-in-DefCfaRegister c = let g = rw c.from-in-DefCfaRegister.ensures at c.uleb_size-in-DefCfaRegister.ensures in rw c.in-DefCfaRegister.is (search rules)

pub returns-in-Offset : goal.returns-in-Offset
unfolding row_bytes
returns-in-Offset c = rw c.in-Offset.is (rw (passed c.factored.result c.factored.type_inv ∙ c.factored.ensures ∙ ap (factor c.args.word.bytes) (passed c.in-Offset.z (omega (arith, c.in-Offset.known_told-in-Offset-1-own.given)))) at c.saved_size.ensures)

pub returns-in-Restore : goal.returns-in-Restore
unfolding row_bytes
returns-in-Restore c = rw c.in-Restore.is (c.opcode_size.ensures ∙ sym (register-length 0xc0 0x06 c.in-Restore.reg))

pub returns-in-Undefined : goal.returns-in-Undefined
unfolding row_bytes
returns-in-Undefined c = let g = rw c.from-in-Undefined.ensures at c.uleb_size-in-Undefined.ensures in rw c.in-Undefined.is (search rules)

pub returns-in-RememberState : goal.returns-in-RememberState
unfolding row_bytes
returns-in-RememberState c = rw c.in-RememberState.is

pub returns-in-RestoreState : goal.returns-in-RestoreState
unfolding row_bytes
returns-in-RestoreState c = rw c.in-RestoreState.is

pub returns-in-NegateRaState : goal.returns-in-NegateRaState
unfolding row_bytes
returns-in-NegateRaState c = rw c.in-NegateRaState.is

pub returns-in-SameValue : goal.returns-in-SameValue
unfolding row_bytes
returns-in-SameValue c = let g = rw c.from-in-SameValue.ensures at c.uleb_size-in-SameValue.ensures in rw c.in-SameValue.is (search rules)

pub returns-in-InRegister : goal.returns-in-InRegister
unfolding row_bytes
returns-in-InRegister c =
    let g = rw c.from-in-InRegister.ensures at c.uleb_size-in-InRegister.ensures in
    let k = rw c.from-in-InRegister-2.ensures at c.uleb_size-in-InRegister-2.ensures in
    rw c.in-InRegister.is (simp length-append (search rules))
