-- A row's operation in bytes and back (DWARF 5, 6.4.2 and 7.24). Code alignment factor 1, data alignment factor minus word.
use Rattle.std.specs.Prelude.{ℕ, zero, suc, ◌+◌, ◌-◌, ◌*◌, ◌/◌, ◌%◌, Bool, true, false, ◌&&◌, List, [], ◌∷◌, ◌++◌, leb, ltb, eqb, ℤ, pos, negsuc, neg_ℤ, nat_abs}
use Rattle.std.proofs.Math.Option.{none, some}
use Rattle.format.specs.Prelude.{pick, Read, next}
use Rattle.format.specs.Constants.{def_cfa_kind, def_cfa_offset_kind, def_cfa_register_kind, offset_kind, restore_kind, undefined_kind, remember_state_kind, restore_state_kind, negate_ra_state_kind, same_value_kind, in_register_kind}
use Rattle.format.specs.Constants.{DW_CFA_advance_loc, DW_CFA_offset, DW_CFA_restore, DW_CFA_nop, DW_CFA_advance_loc1, DW_CFA_advance_loc2, DW_CFA_advance_loc4, DW_CFA_offset_extended, DW_CFA_restore_extended, DW_CFA_undefined, DW_CFA_same_value, DW_CFA_register, DW_CFA_remember_state, DW_CFA_restore_state, DW_CFA_def_cfa, DW_CFA_def_cfa_register, DW_CFA_def_cfa_offset, DW_CFA_offset_extended_sf, DW_CFA_def_cfa_sf, DW_CFA_def_cfa_offset_sf, DW_CFA_AARCH64_negate_ra_state}
use Rattle.format.specs.Leb.{little, read_little, uleb, sleb, read_uleb, read_sleb, fits64}
use Rattle.format.specs.declared.Row.{Row}
use Rattle.format.specs.declared.Row.TheVariants.{DefCfa, DefCfaOffset, DefCfaRegister, Offset, Restore, Undefined, RememberState, RestoreState, NegateRaState, SameValue, InRegister}
use Rattle.format.specs.declared.Operation.{Operation}
use Rattle.format.specs.declared.Operation.TheVariants.{Nop, Step, Does}

-- a row at its offset from the function's start
abbrev pub RowAt : Type 0
RowAt = ℕ × Row

-- ---- the writer

-- z divided by minus w (DWARF 5, 6.4.1: data_alignment_factor)
unfoldable pub factor : ℕ → ℤ → ℤ
factor w (pos n) = neg_ℤ (pos (n / w))
factor w (negsuc n) = pos (suc n / w)

-- DW_CFA_def_cfa and DW_CFA_def_cfa_offset (6.4.2.2): plain where the offset is not negative, else the form that is signed and factored
unfoldable pub cfa_bytes : ℕ → (plain sf : ℕ) → List ℕ → ℤ → List ℕ
cfa_bytes w plain sf reg (pos n) = plain ∷ (reg ++ uleb n)
cfa_bytes w plain sf reg (negsuc n) = sf ∷ (reg ++ sleb (factor w (negsuc n)))

-- a register to 63 stands in the opcode (7.24, table 7.29: the opcode's high two bits), else it follows
unfoldable pub with_register : (short long : ℕ) → ℕ → List ℕ → List ℕ
with_register short long reg bs = pick (leb reg 63) ((short + reg) ∷ bs) (long ∷ (uleb reg ++ bs))

-- a saved register (6.4.2.3), of a factored offset; the signed form is for one above the frame address
unfoldable pub saved_bytes : ℕ → ℤ → List ℕ
saved_bytes reg (pos n) = with_register DW_CFA_offset DW_CFA_offset_extended reg (uleb n)
saved_bytes reg (negsuc n) = DW_CFA_offset_extended_sf ∷ (uleb reg ++ sleb (negsuc n))

-- a row's operation
unfoldable pub row_bytes : ℕ → Row → List ℕ
row_bytes w (DefCfa reg z) = cfa_bytes w DW_CFA_def_cfa DW_CFA_def_cfa_sf (uleb reg) z
row_bytes w (DefCfaOffset z) = cfa_bytes w DW_CFA_def_cfa_offset DW_CFA_def_cfa_offset_sf [] z
row_bytes w (DefCfaRegister reg) = DW_CFA_def_cfa_register ∷ uleb reg
row_bytes w (Offset reg z) = saved_bytes reg (factor w z)
row_bytes w (Restore reg) = with_register DW_CFA_restore DW_CFA_restore_extended reg []
row_bytes w (Undefined reg) = DW_CFA_undefined ∷ uleb reg
row_bytes w RememberState = DW_CFA_remember_state ∷ []
row_bytes w RestoreState = DW_CFA_restore_state ∷ []
row_bytes w NegateRaState = DW_CFA_AARCH64_negate_ra_state ∷ []
row_bytes w (SameValue reg) = DW_CFA_same_value ∷ uleb reg
row_bytes w (InRegister reg other) = DW_CFA_register ∷ (uleb reg ++ uleb other)

-- The forms of a step (DWARF 5, 6.4.2.1; document 01, "Record"): how many bytes of operand follow the opcode.
unfoldable pub step_in : ℕ → ℕ → List ℕ
step_in zero n = (DW_CFA_advance_loc + n) ∷ []
step_in (suc zero) n = DW_CFA_advance_loc1 ∷ little 1 n
step_in (suc (suc zero)) n = DW_CFA_advance_loc2 ∷ little 2 n
step_in (suc (suc (suc k))) n = DW_CFA_advance_loc4 ∷ little 4 n

-- the shortest form that holds n
unfoldable pub step_form : ℕ → ℕ
step_form n = pick (leb n 0x3f) 0 (pick (leb n 0xff) 1 (pick (leb n 0xffff) 2 4))

-- a step of 0 writes nothing
unfoldable pub step_bytes : ℕ → List ℕ
step_bytes n = pick (eqb n 0) [] (step_in (step_form n) n)

-- rows with the steps between them, from the offset `at` on
unfoldable pub stepped_bytes : ℕ → ℕ → List RowAt → List ℕ
stepped_bytes w at [] = []
stepped_bytes w at (x ∷ xs) = step_bytes (x.0 - at) ++ (row_bytes w x.1 ++ stepped_bytes w x.0 xs)

-- rows without steps, as a header has them
unfoldable pub rows_bytes : ℕ → List Row → List ℕ
rows_bytes w [] = []
rows_bytes w (r ∷ rs) = row_bytes w r ++ rows_bytes w rs

-- ---- the reader

-- z times minus w
unfoldable pub unfactor : ℕ → ℤ → ℤ
unfactor w (pos n) = neg_ℤ (pos (n * w))
unfactor w (negsuc n) = pos (suc n * w)

-- a register to 65,535
unfoldable pub read_register : List ℕ → Read ℕ
read_register bs = next (read_uleb bs) λ v r. pick (leb v 0xffff) (some (v, r)) none

-- an offset in signed 64 bits
unfoldable pub in_range : ℤ → List ℕ → Read ℤ
in_range z r = pick (fits64 z) (some (z, r)) none

-- an offset as it stands; factored, unsigned; factored, signed
unfoldable pub read_offset : List ℕ → Read ℤ
read_offset bs = next (read_uleb bs) λ v r. in_range (pos v) r

unfoldable pub read_factored : ℕ → List ℕ → Read ℤ
read_factored w bs = next (read_uleb bs) λ v r. in_range (unfactor w (pos v)) r

unfoldable pub read_signed : ℕ → List ℕ → Read ℤ
read_signed w bs = next (read_sleb bs) λ v r. in_range (unfactor w v) r

-- an operation of one operand, and a row of a register and a second operand
unfoldable pub one : {A : Type 0} → Read A → (A → Operation) → Read Operation
one a f = next a λ v r. some (f v, r)

unfoldable pub two : {A : Type 0} → (List ℕ → Read A) → (ℕ → A → Row) → List ℕ → Read Operation
two read f bs = next (read_register bs) λ reg r. one (read r) λ v. Does (f reg v)

-- the operations without a number in the opcode (7.24, table 7.29), those that the writers write (document 01, question 66; document 02, W-207)
unfoldable pub read_extended : ℕ → ℕ → List ℕ → Read Operation
read_extended w b bs =
    pick (eqb b DW_CFA_nop) (some (Nop, bs))
    (pick (eqb b DW_CFA_advance_loc1) (one (read_little 1 bs) Step)
    (pick (eqb b DW_CFA_advance_loc2) (one (read_little 2 bs) Step)
    (pick (eqb b DW_CFA_advance_loc4) (one (read_little 4 bs) Step)
    (pick (eqb b DW_CFA_offset_extended) (two (read_factored w) Offset bs)
    (pick (eqb b DW_CFA_restore_extended) (one (read_register bs) λ reg. Does (Restore reg))
    (pick (eqb b DW_CFA_undefined) (one (read_register bs) λ reg. Does (Undefined reg))
    (pick (eqb b DW_CFA_same_value) (one (read_register bs) λ reg. Does (SameValue reg))
    (pick (eqb b DW_CFA_register) (two read_register InRegister bs)
    (pick (eqb b DW_CFA_remember_state) (some (Does RememberState, bs))
    (pick (eqb b DW_CFA_restore_state) (some (Does RestoreState, bs))
    (pick (eqb b DW_CFA_def_cfa) (two read_offset DefCfa bs)
    (pick (eqb b DW_CFA_def_cfa_register) (one (read_register bs) λ reg. Does (DefCfaRegister reg))
    (pick (eqb b DW_CFA_def_cfa_offset) (one (read_offset bs) λ z. Does (DefCfaOffset z))
    (pick (eqb b DW_CFA_offset_extended_sf) (two (read_signed w) Offset bs)
    (pick (eqb b DW_CFA_def_cfa_sf) (two (read_signed w) DefCfa bs)
    (pick (eqb b DW_CFA_def_cfa_offset_sf) (one (read_signed w bs) λ z. Does (DefCfaOffset z))
    (pick (eqb b DW_CFA_AARCH64_negate_ra_state) (some (Does NegateRaState, bs)) none)))))))))))))))))

-- one operation; the high two bits of the opcode tell the short forms (7.24)
unfoldable pub read_operation : ℕ → List ℕ → Read Operation
read_operation w [] = none
read_operation w (b ∷ bs) =
    pick (ltb b DW_CFA_advance_loc) (read_extended w b bs)
    (pick (ltb b DW_CFA_offset) (some (Step (b - DW_CFA_advance_loc), bs))
    (pick (ltb b DW_CFA_restore) (one (read_factored w bs) λ z. Does (Offset (b - DW_CFA_offset) z))
    (some (Does (Restore (b - DW_CFA_restore)), bs))))

-- ---- question 24: what a factored form can hold

-- a multiple of the word
unfoldable pub whole : ℕ → ℤ → Bool
whole w z = eqb (nat_abs z % w) 0

-- a negative offset is factored, another is not
unfoldable pub whole_below : ℕ → ℤ → Bool
whole_below w (pos n) = true
whole_below w (negsuc n) = whole w (negsuc n)

-- each Offset, and each negative DefCfa or DefCfaOffset, is a multiple of the word
unfoldable pub row_whole : ℕ → Row → Bool
row_whole w (DefCfa reg z) = whole_below w z
row_whole w (DefCfaOffset z) = whole_below w z
row_whole w (DefCfaRegister reg) = true
row_whole w (Offset reg z) = whole w z
row_whole w (Restore reg) = true
row_whole w (Undefined reg) = true
row_whole w RememberState = true
row_whole w RestoreState = true
row_whole w NegateRaState = true
row_whole w (SameValue reg) = true
row_whole w (InRegister reg other) = true

-- ---- a row's parts, and when two rows are equal

-- a row's kind, its register (or 0) and its second operand: an offset, or the register that holds the value (or 0)
unfoldable pub kind_of : Row → ℕ
kind_of (DefCfa reg z) = def_cfa_kind
kind_of (DefCfaOffset z) = def_cfa_offset_kind
kind_of (DefCfaRegister reg) = def_cfa_register_kind
kind_of (Offset reg z) = offset_kind
kind_of (Restore reg) = restore_kind
kind_of (Undefined reg) = undefined_kind
kind_of RememberState = remember_state_kind
kind_of RestoreState = restore_state_kind
kind_of NegateRaState = negate_ra_state_kind
kind_of (SameValue reg) = same_value_kind
kind_of (InRegister reg other) = in_register_kind

unfoldable pub reg_of : Row → ℕ
reg_of (DefCfa reg z) = reg
reg_of (DefCfaOffset z) = 0
reg_of (DefCfaRegister reg) = reg
reg_of (Offset reg z) = reg
reg_of (Restore reg) = reg
reg_of (Undefined reg) = reg
reg_of RememberState = 0
reg_of RestoreState = 0
reg_of NegateRaState = 0
reg_of (SameValue reg) = reg
reg_of (InRegister reg other) = reg

unfoldable pub offset_of : Row → ℤ
offset_of (DefCfa reg z) = z
offset_of (DefCfaOffset z) = z
offset_of (DefCfaRegister reg) = pos 0
offset_of (Offset reg z) = z
offset_of (Restore reg) = pos 0
offset_of (Undefined reg) = pos 0
offset_of RememberState = pos 0
offset_of RestoreState = pos 0
offset_of NegateRaState = pos 0
offset_of (SameValue reg) = pos 0
offset_of (InRegister reg other) = pos other

-- two offsets are equal, and two rows
unfoldable pub same_offset : ℤ → ℤ → Bool
same_offset (pos a) (pos b) = eqb a b
same_offset (pos a) (negsuc b) = false
same_offset (negsuc a) (pos b) = false
same_offset (negsuc a) (negsuc b) = eqb a b

unfoldable pub same_row : Row → Row → Bool
same_row a b = eqb (kind_of a) (kind_of b) && eqb (reg_of a) (reg_of b) && same_offset (offset_of a) (offset_of b)
