-- Signed numbers by sign and magnitude: n, or its complement -(n + 1).
use Rattle.std.specs.Prelude.{ℕ, ◌+◌, ◌-◌, ◌*◌, ◌^◌, Bool, true, false, ltb, eqb, length, ℤ, pos, negsuc, Option, Some, None}
use Rattle.format.specs.Prelude.{pick}
use Rattle.format.specs.Leb.{sleb}
use Rattle.operations.specs.declared.fields.Position.{Position}
use Rattle.operations.specs.Positions.{past}

unfoldable pub signed : Bool → ℕ → ℤ
signed false n = pos n
signed true n = negsuc n

-- a number that was read from p to `end`
unfoldable pub spelled_to : ℤ → Position → (end : ℕ) → Option (ℤ × Position)
spelled_to z p end = Some (z, past p (eqb (end - p.at) (length (sleb z))) end)

-- what is read, where 64 bits hold it
unfoldable pub held : Bool → ℕ → Position → (end : ℕ) → Option (ℤ × Position)
held neg n p end = pick (ltb n (2 ^ 63)) (spelled_to (signed neg n) p end) None

-- what the groups that make a, below the scale s, add to what is read past them
unfoldable pub under : ℕ → ℕ → ℤ → ℤ
under s a (pos n) = pos (n * s + a)
under s a (negsuc n) = negsuc (n * s + (s - 1 - a))
