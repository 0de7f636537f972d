-- Whether numbers are spelled shortest (document 02, W-206). A LEB number may be padded (DWARF 5, 7.6): `81 00` is 1, as `01` is.
use Rattle.std.specs.Prelude.{ℕ, zero, suc, ◌+◌, ◌-◌, Bool, true, false, ◌&&◌, List, [], ◌∷◌, length, leb, ltb, eqb}
use Rattle.std.proofs.Math.Option.{none, some}
use Rattle.format.specs.Prelude.{pick, Read, next}
use Rattle.format.specs.Constants.{DW_CFA_advance_loc, DW_CFA_offset, DW_CFA_restore, DW_CFA_offset_extended, DW_CFA_restore_extended, DW_CFA_undefined, DW_CFA_same_value, DW_CFA_register, DW_CFA_def_cfa, DW_CFA_def_cfa_register, DW_CFA_def_cfa_offset, DW_CFA_offset_extended_sf, DW_CFA_def_cfa_sf, DW_CFA_def_cfa_offset_sf}
use Rattle.format.specs.Leb.{uleb, sleb, read_uleb, read_sleb}
use Rattle.format.specs.declared.Operation.{Operation}
use Rattle.format.specs.declared.Operation.TheVariants.{Nop, Step, Does}
use Rattle.format.specs.Rows.{read_operation}

-- ---- one number

pub data Number : Type 0 where
  unsigned : Number
  signed : Number

-- as many bytes were taken as the shortest spelling has
unfoldable pub shortest : {A : Type 0} → (A → List ℕ) → List ℕ → Read A → Read Bool
shortest spell bs r = next r λ v rest. some (eqb (length bs - length rest) (length (spell v)), rest)

-- whether the number at the front is shortest, and the bytes behind it
unfoldable pub read_mark : Number → List ℕ → Read Bool
read_mark unsigned bs = shortest uleb bs (read_uleb bs)
read_mark signed bs = shortest sleb bs (read_sleb bs)

-- ---- numbers one behind the other

-- this one and those behind it; no where it cannot be read
unfoldable pub marked : Read Bool → (List ℕ → Bool) → Bool
marked none k = false
marked (some x) k = x.0 && k x.1

unfoldable pub numbers_short : List Number → List ℕ → Bool
numbers_short [] bs = true
numbers_short (n ∷ ns) bs = marked (read_mark n bs) (numbers_short ns)

-- all bytes are unsigned numbers, each of a byte at least, so the length is fuel enough
unfoldable pub every_short_f : ℕ → List ℕ → Bool
every_short_f zero bs = true
every_short_f (suc f) [] = true
every_short_f (suc f) (b ∷ bs) = marked (read_mark unsigned (b ∷ bs)) (every_short_f f)

unfoldable pub every_short : List ℕ → Bool
every_short bs = every_short_f (length bs) bs

-- ---- operations (DWARF 5, 7.24, table 7.29): the operands that are LEB numbers; steps have fields

unfoldable pub extended_operands : (opcode : ℕ) → List Number
extended_operands b =
    pick (eqb b DW_CFA_offset_extended) (unsigned ∷ unsigned ∷ [])
    (pick (eqb b DW_CFA_restore_extended) (unsigned ∷ [])
    (pick (eqb b DW_CFA_undefined) (unsigned ∷ [])
    (pick (eqb b DW_CFA_same_value) (unsigned ∷ [])
    (pick (eqb b DW_CFA_register) (unsigned ∷ unsigned ∷ [])
    (pick (eqb b DW_CFA_def_cfa) (unsigned ∷ unsigned ∷ [])
    (pick (eqb b DW_CFA_def_cfa_register) (unsigned ∷ [])
    (pick (eqb b DW_CFA_def_cfa_offset) (unsigned ∷ [])
    (pick (eqb b DW_CFA_offset_extended_sf) (unsigned ∷ signed ∷ [])
    (pick (eqb b DW_CFA_def_cfa_sf) (unsigned ∷ signed ∷ [])
    (pick (eqb b DW_CFA_def_cfa_offset_sf) (signed ∷ []) []))))))))))

-- the short form of a saved register has its offset behind it, the other short forms nothing
unfoldable pub operands_of : (opcode : ℕ) → List Number
operands_of b =
    pick (ltb b DW_CFA_advance_loc) (extended_operands b)
    (pick (ltb b DW_CFA_offset) [] (pick (ltb b DW_CFA_restore) (unsigned ∷ []) []))

unfoldable pub operation_short : List ℕ → Bool
operation_short [] = true
operation_short (b ∷ bs) = numbers_short (operands_of b) bs

-- ---- a run of operations: those up to the step that would pass p

unfoldable pub behind : (p : ℕ) → Operation → (loc : ℕ) → (ℕ → Bool) → Bool
behind p Nop loc more = more loc
behind p (Step n) loc more = pick (leb (loc + n) p) (more (loc + n)) true
behind p (Does row) loc more = more loc

-- no where an operation cannot be read
unfoldable pub while_read : {A : Type 0} → Read A → (A → List ℕ → Bool) → Bool
while_read none k = false
while_read (some x) k = k x.0 x.1

unfoldable pub run_short_f : (word p : ℕ) → (fuel loc : ℕ) → List ℕ → Bool
run_short_f word p zero loc bs = true
run_short_f word p (suc f) loc [] = true
run_short_f word p (suc f) loc (b ∷ bs) =
    while_read (read_operation word (b ∷ bs)) λ op r. operation_short (b ∷ bs) && behind p op loc λ loc'. run_short_f word p f loc' r

-- an operation has a byte at least, so the length is fuel enough
unfoldable pub run_short : (word p : ℕ) → List ℕ → Bool
run_short word p bs = run_short_f word p (length bs) 0 bs
