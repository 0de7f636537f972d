-- A flag as a number.
use mathlib.Core.Path.{◌≡◌, refl}
use mathlib.Core.Bool.{Bool, true, false}
use mir.Val.{bool_byte}
use Rattle.format.specs.Answers.{bit}

-- what `u64::from` gives of a flag
pub flag_number : (b : Bool) → bool_byte b ≡ bit b
unfolding bit
flag_number true = refl
flag_number false = refl
