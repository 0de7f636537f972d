-- An operation at a place (DWARF 5, 6.4.2 and table 7.29; DW_CFA_MIPS_advance_loc8, DW_CFA_GNU_args_size,
-- DW_CFA_GNU_negative_offset_extended and DW_CFA_AARCH64_negate_ra_state_with_pc of binutils' dwarf2.def;
-- DWARF for the Arm 64-bit Architecture, DW_CFA_AARCH64_negate_ra_state).
use Rattle.std.specs.Prelude.{ℕ, Bool, ◌+◌, ◌-◌, ◌*◌, ◌&&◌, ◌||◌, ◌==◌, nat_lt, nat_le, if◌then◌else◌, List, length, slice_index, ℤ, Option, Some, None, Ok, Err}
use Rattle.cfi_entries.specs.declared.refusal.Question.{Question}
use Rattle.cfi_entries.specs.declared.refusal.Question.TheVariants as question
use Rattle.cfi_entries.specs.declared.refusal.Refusal.{Refusal}
use Rattle.cfi_entries.specs.Places.{field_at, uleb_at}
use Rattle.cfi_entries.specs.Refusals.{Answer, refused, or_refused, ◌>>?◌}
use Rattle.cfi_pointers.specs.declared.pointer.Pointer.{Pointer}
use Rattle.cfi_pointers.specs.Pointers.{pointer_at}
use Rattle.cfi_operations.specs.declared.operation.Operation.{Operation}
use Rattle.cfi_operations.specs.declared.operation.Operation.TheVariants.{Nop, SetLocation, Advance, DefCfa, DefCfaRegister, DefCfaOffset, DefCfaExpression, Undefined, SameValue, Offset, ValOffset, Register, Expression, ValExpression, Restore, RememberState, RestoreState, NegateRaState, NegateRaStateWithPc, ArgsSize}
use Rattle.cfi_operations.specs.declared.operation.Decoded.{Decoded}
use Rattle.cfi_operations.specs.declared.operation.Units.{Units}
use Rattle.cfi_operations.specs.Numbers.{fitting}
use Rattle.cfi_operations.specs.Operands.{register_at, plain_at, factored_at, negated_at, signed_at, block_at}

abbrev pub decoded : Operation → ℕ → Option Decoded
decoded op q = Some (record { operation = op; next = q })

-- nop, remember_state, restore_state, AARCH64_negate_ra_state_with_pc, AARCH64_negate_ra_state
abbrev pub bare : ℕ → Option Operation
bare code =
    if code == 0x00 then Some Nop
    else if code == 0x0a then Some RememberState
    else if code == 0x0b then Some RestoreState
    else if code == 0x2c then Some NegateRaStateWithPc
    else if code == 0x2d then Some NegateRaState
    else None

-- advance_loc1, 2 and 4, and MIPS_advance_loc8
abbrev pub step_bytes : ℕ → Option ℕ
step_bytes code =
    if code == 0x02 then Some 1
    else if code == 0x03 then Some 2
    else if code == 0x04 then Some 4
    else if code == 0x1d then Some 8
    else None

abbrev pub step_at : (factor n : ℕ) → List ℕ → ℕ → Option Decoded
step_at factor n s p = field_at n s p >>? λ x. fitting (x.0 * factor) >>? λ k. decoded (Advance k) x.1

-- def_cfa, def_cfa_register, def_cfa_offset, def_cfa_expression, def_cfa_sf, def_cfa_offset_sf
abbrev pub cfa_at : (factor : ℤ) → (code : ℕ) → List ℕ → ℕ → Option Decoded
cfa_at factor code s p =
    if code == 0x0c then (register_at s p >>? λ r. plain_at s r.1 >>? λ z. decoded (DefCfa r.0 z.0) z.1)
    else if code == 0x0d then (register_at s p >>? λ r. decoded (DefCfaRegister r.0) r.1)
    else if code == 0x0e then (plain_at s p >>? λ z. decoded (DefCfaOffset z.0) z.1)
    else if code == 0x0f then (block_at s p >>? λ b. decoded (DefCfaExpression b.0) b.1)
    else if code == 0x12
    then (register_at s p >>? λ r. signed_at factor s r.1 >>? λ z. decoded (DefCfa r.0 z.0) z.1)
    else if code == 0x13 then (signed_at factor s p >>? λ z. decoded (DefCfaOffset z.0) z.1)
    else None

-- offset_extended, restore_extended, undefined, same_value, register, expression, offset_extended_sf,
-- val_offset, val_offset_sf, val_expression, GNU_negative_offset_extended
abbrev pub value_at : (factor : ℤ) → (code reg : ℕ) → List ℕ → ℕ → Option Decoded
value_at factor code reg s p =
    if code == 0x05 then (factored_at factor s p >>? λ z. decoded (Offset reg z.0) z.1)
    else if code == 0x06 then decoded (Restore reg) p
    else if code == 0x07 then decoded (Undefined reg) p
    else if code == 0x08 then decoded (SameValue reg) p
    else if code == 0x09 then (register_at s p >>? λ r. decoded (Register reg r.0) r.1)
    else if code == 0x10 then (block_at s p >>? λ b. decoded (Expression reg b.0) b.1)
    else if code == 0x11 then (signed_at factor s p >>? λ z. decoded (Offset reg z.0) z.1)
    else if code == 0x14 then (factored_at factor s p >>? λ z. decoded (ValOffset reg z.0) z.1)
    else if code == 0x15 then (signed_at factor s p >>? λ z. decoded (ValOffset reg z.0) z.1)
    else if code == 0x16 then (block_at s p >>? λ b. decoded (ValExpression reg b.0) b.1)
    else if code == 0x2f then (negated_at factor s p >>? λ z. decoded (Offset reg z.0) z.1)
    else None

abbrev pub of_register_at : (factor : ℤ) → (code : ℕ) → List ℕ → ℕ → Option Decoded
of_register_at factor code s p = register_at s p >>? λ r. value_at factor code r.0 s r.1

-- GNU_args_size
abbrev pub args_size_at : List ℕ → ℕ → Option Decoded
args_size_at s p = uleb_at s p >>? λ n. decoded (ArgsSize n.0) n.1

abbrev pub is_cfa : ℕ → Bool
is_cfa code = (nat_le 0x0c code && nat_le code 0x0f) || (nat_le 0x12 code && nat_le code 0x13)

abbrev pub or_step : Units → (code : ℕ) → List ℕ → ℕ → Option ℕ → Option Decoded
or_step u code s p (Some n) = step_at u.code_factor n s p
or_step u code s p None =
    if is_cfa code then cfa_at u.data_factor code s p
    else if code == 0x2e then args_size_at s p
    else of_register_at u.data_factor code s p

abbrev pub or_operands : Units → (code : ℕ) → List ℕ → ℕ → Option Operation → Option Decoded
or_operands u code s p (Some op) = decoded op p
or_operands u code s p None = or_step u code s p (step_bytes code)

-- an operation by its code, which is below 0x40, and what stands behind it
unfoldable pub with_operands_at : Units → (code : ℕ) → List ℕ → ℕ → Option Decoded
with_operands_at u code s p = or_operands u code s p (bare code)

-- a base that is not known stays that; what is no pointer is no operation
abbrev pub base_or_operations : Question → Question
base_or_operations question.Base = question.Base
base_or_operations q = question.Operations

-- set_loc: an address as in the FDE's header
abbrev pub located : (place : ℕ) → Answer Pointer → Answer Decoded
located place (Ok q) = Ok (record { operation = SetLocation q.address; next = q.next })
located place (Err r) = Err (refused (base_or_operations r.question) place)

unfoldable pub set_location_at : Units → (place : ℕ) → List ℕ → ℕ → Answer Decoded
set_location_at u place s p = located place (pointer_at u.pointers u.size u.bases s p)

-- the high two bits are advance_loc, offset or restore, and the others the step or the register
unfoldable pub packed_at : Units → (code : ℕ) → List ℕ → ℕ → Option Decoded
packed_at u code s p =
    if nat_lt code 0x80 then (fitting ((code - 0x40) * u.code_factor) >>? λ k. decoded (Advance k) p)
    else if nat_lt code 0xc0
    then (factored_at u.data_factor s p >>? λ z. decoded (Offset (code - 0x80) z.0) z.1)
    else decoded (Restore (code - 0xc0)) p

-- the operation at a place
unfoldable pub operation_at : Units → List ℕ → ℕ → Answer Decoded
operation_at u s p =
    if nat_le (length s) p then Err (refused question.Operations p)
    else if slice_index s p == 0x01 then set_location_at u p s (p + 1)
    else or_refused question.Operations p
    (if nat_lt (slice_index s p) 0x40 then with_operands_at u (slice_index s p) s (p + 1)
    else packed_at u (slice_index s p) s (p + 1))
