-- What the helpers of rows do: the parts that a row's bytes are made of.
use Rattle.std.specs.Prelude.{ℕ, List, ℤ, pos, negsuc}
use Rattle.format.specs.Leb.{uleb, sleb}
use Rattle.format.specs.Rows.{factor}

-- the opcode of a frame address row: the plain one where the offset is not negative, else the signed one
unfoldable pub by_sign : (plain sf : ℕ) → ℤ → ℕ
by_sign plain sf (pos n) = plain
by_sign plain sf (negsuc n) = sf

-- its operand
unfoldable pub offset_bytes : ℕ → ℤ → List ℕ
offset_bytes w (pos n) = uleb n
offset_bytes w (negsuc n) = sleb (factor w (negsuc n))
