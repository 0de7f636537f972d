-- The sign of a number that is written by sign and magnitude.
use Rattle.std.specs.Prelude.{Bool, true, false, ℤ, pos, negsuc}

unfoldable pub is_negative : ℤ → Bool
is_negative (pos n) = false
is_negative (negsuc n) = true
