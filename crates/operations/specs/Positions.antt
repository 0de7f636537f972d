-- What stands at a position of a slice: the readers on the rest of a list, answered with the position past what was read.
use Rattle.std.specs.Prelude.{ℕ, ◌-◌, Bool, true, ◌&&◌, List, [], ◌∷◌, length, drop, ℤ, Option, Some, None}
use Rattle.std.proofs.Math.Option.{none, some}
use Rattle.format.specs.Prelude.{Read}
use Rattle.format.specs.Leb.{read_little, read_uleb, read_sleb}
use Rattle.format.specs.Rows.{read_operation}
use Rattle.format.specs.Shortest.{unsigned, signed, numbers_short, operation_short}
use Rattle.format.specs.declared.Operation.{Operation}
use Rattle.operations.specs.declared.fields.Position.{Position}

-- a place with nothing read in front of it
abbrev pub from : ℕ → Position
from p = record { at = p; shortest = true }

-- the position q past what was read from p on, whose numbers are spelled shortest or not
unfoldable pub past : Position → (shortest : Bool) → ℕ → Position
past p b q = record { at = q; shortest = p.shortest && b }

-- what was read and, where `size` elements are all there are, the position in front of the rest
unfoldable pub read_from : {A : Type 0} → Position → (shortest : Bool) → (size : ℕ) → Read A → Option (A × Position)
read_from p b size none = None
read_from p b size (some x) = Some (x.0, past p b (size - length x.1))

-- the unsigned and the signed LEB number, the field of k bytes and the operation at position p of s
unfoldable pub uleb_at : List ℕ → Position → Option (ℕ × Position)
uleb_at s p = read_from p (numbers_short (unsigned ∷ []) (drop p.at s)) (length s) (read_uleb (drop p.at s))

unfoldable pub sleb_at : List ℕ → Position → Option (ℤ × Position)
sleb_at s p = read_from p (numbers_short (signed ∷ []) (drop p.at s)) (length s) (read_sleb (drop p.at s))

unfoldable pub little_at : ℕ → List ℕ → Position → Option (ℕ × Position)
little_at k s p = read_from p true (length s) (read_little k (drop p.at s))

unfoldable pub operation_at : (word : ℕ) → List ℕ → Position → Option (Operation × Position)
operation_at word s p = read_from p (operation_short (drop p.at s)) (length s) (read_operation word (drop p.at s))
