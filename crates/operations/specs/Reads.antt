-- What the helpers of the operation reader do: an operand at a position, and the operations that share a shape.
use Rattle.std.specs.Prelude.{ℕ, true, List, [], ◌∷◌, eqb, ℤ, length, drop, Option, Some, None}
use Rattle.format.specs.Prelude.{pick, Read}
use Rattle.format.specs.Leb.{read_little, fits64}
use Rattle.format.specs.Rows.{read_register, read_offset, read_factored, read_signed, one, two, read_extended}
use Rattle.format.specs.declared.Row.{Row}
use Rattle.format.specs.declared.Row.TheVariants.{DefCfa, DefCfaOffset, Offset, InRegister}
use Rattle.format.specs.declared.Operation.{Operation}
use Rattle.format.specs.declared.Operation.TheVariants.{Step, Does}
use Rattle.format.specs.Shortest.{Number, unsigned, signed, numbers_short, extended_operands}
use Rattle.operations.specs.declared.fields.Position.{Position}
use Rattle.operations.specs.Positions.{read_from}

-- a register, an offset as it stands, and a factored offset, unsigned and signed
unfoldable pub register_at : List ℕ → Position → Option (ℕ × Position)
register_at s p = read_from p (numbers_short (unsigned ∷ []) (drop p.at s)) (length s) (read_register (drop p.at s))

unfoldable pub plain_at : List ℕ → Position → Option (ℤ × Position)
plain_at s p = read_from p (numbers_short (unsigned ∷ []) (drop p.at s)) (length s) (read_offset (drop p.at s))

unfoldable pub factored_at : ℕ → List ℕ → Position → Option (ℤ × Position)
factored_at w s p = read_from p (numbers_short (unsigned ∷ []) (drop p.at s)) (length s) (read_factored w (drop p.at s))

unfoldable pub signed_at : ℕ → List ℕ → Position → Option (ℤ × Position)
signed_at w s p = read_from p (numbers_short (signed ∷ []) (drop p.at s)) (length s) (read_signed w (drop p.at s))

-- an offset, where 64 bits hold it
unfoldable pub held : ℤ → Position → Option (ℤ × Position)
held z past = pick (fits64 z) (Some (z, past)) None

-- the offset of an opcode: 05 has it factored, 0c and 0e as it stands, and 11 to 13 factored and signed
unfoldable pub read_operand : ℕ → ℕ → List ℕ → Read ℤ
read_operand w b bs = pick (eqb b 0x05) (read_factored w bs) (pick (eqb b 0x0c) (read_offset bs) (pick (eqb b 0x0e) (read_offset bs) (read_signed w bs)))

unfoldable pub operand_number : ℕ → Number
operand_number b = pick (eqb b 0x05) unsigned (pick (eqb b 0x0c) unsigned (pick (eqb b 0x0e) unsigned signed))

unfoldable pub operand_at : ℕ → ℕ → List ℕ → Position → Option (ℤ × Position)
operand_at w b s p = read_from p (numbers_short (operand_number b ∷ []) (drop p.at s)) (length s) (read_operand w b (drop p.at s))

-- the row of an opcode with a register and an offset
unfoldable pub pair_row : ℕ → ℕ → ℤ → Row
pair_row b reg z = pick (eqb b 0x05) (Offset reg z) (pick (eqb b 0x11) (Offset reg z) (DefCfa reg z))

-- the operations by what stands behind their opcode
unfoldable pub step_at : ℕ → List ℕ → Position → Option (Operation × Position)
step_at n s p = read_from p true (length s) (one (read_little n (drop p.at s)) Step)

unfoldable pub register_row_at : (ℕ → Row) → List ℕ → Position → Option (Operation × Position)
register_row_at of s p = read_from p (numbers_short (unsigned ∷ []) (drop p.at s)) (length s) (one (read_register (drop p.at s)) λ reg. Does (of reg))

unfoldable pub offset_row_at : ℕ → ℕ → List ℕ → Position → Option (Operation × Position)
offset_row_at w b s p = read_from p (numbers_short (operand_number b ∷ []) (drop p.at s)) (length s) (one (read_operand w b (drop p.at s)) λ z. Does (DefCfaOffset z))

unfoldable pub pair_row_at : ℕ → ℕ → List ℕ → Position → Option (Operation × Position)
pair_row_at w b s p = read_from p (numbers_short (unsigned ∷ operand_number b ∷ []) (drop p.at s)) (length s) (two (read_operand w b) (pair_row b) (drop p.at s))

unfoldable pub in_register_at : List ℕ → Position → Option (Operation × Position)
in_register_at s p = read_from p (numbers_short (unsigned ∷ unsigned ∷ []) (drop p.at s)) (length s) (two read_register InRegister (drop p.at s))

unfoldable pub saved_at : ℕ → ℕ → List ℕ → Position → Option (Operation × Position)
saved_at w reg s p = read_from p (numbers_short (unsigned ∷ []) (drop p.at s)) (length s) (one (read_factored w (drop p.at s)) λ z. Does (Offset reg z))

-- the operations below 0x40
unfoldable pub extended_at : ℕ → ℕ → List ℕ → Position → Option (Operation × Position)
extended_at w b s p = read_from p (numbers_short (extended_operands b) (drop p.at s)) (length s) (read_extended w b (drop p.at s))
