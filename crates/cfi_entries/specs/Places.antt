-- Numbers at places of a list of bytes: what is read there (DWARF 5, 7.6 and 7.4), and the place behind it.
use Rattle.std.specs.Prelude.{ℕ, ◌-◌, List, length, drop, ℤ, Option, Some, None}
use Rattle.std.proofs.Math.Option.{none, some}
use Rattle.format.specs.Prelude.{Read}
use Rattle.format.specs.Leb.{read_little, read_uleb, read_sleb}

-- what was read, and where the rest starts, in a list of that many elements
unfoldable pub placed : {A : Type 0} → (size : ℕ) → Read A → Option (A × ℕ)
placed size none = None
placed size (some x) = Some (x.0, size - length x.1)

-- the field of n bytes, and the LEB128 numbers
unfoldable pub field_at : (n : ℕ) → List ℕ → ℕ → Option (ℕ × ℕ)
field_at n s p = placed (length s) (read_little n (drop p s))

unfoldable pub uleb_at : List ℕ → ℕ → Option (ℕ × ℕ)
uleb_at s p = placed (length s) (read_uleb (drop p s))

unfoldable pub sleb_at : List ℕ → ℕ → Option (ℤ × ℕ)
sleb_at s p = placed (length s) (read_sleb (drop p s))
