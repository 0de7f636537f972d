-- A reading and its mark as numbers.
use mathlib.Core.Path.{◌≡◌}
use Prim.Native.Nat.{ℕ}
use mathlib.Core.Bool.{Bool, false}
use Rattle.format.specs.Coded.{Reading}
use Rattle.std.specs.Prelude.{Err}
use Rattle.format.specs.Answers.{mark_of, marked_numbers}

pub both_marked : {r t : Reading} {a b : Bool} → r ≡ t → a ≡ b → marked_numbers r a ≡ marked_numbers t b
both_marked e f = rw (e, f)

-- a refusal has no mark, whatever its numbers were
pub refused_marked : {n m : ℕ} {r : Reading} (b : Bool) → m ≡ n → Err n ≡ r → marked_numbers (Err m) false ≡ marked_numbers r b
unfolding marked_numbers mark_of
refused_marked b f e = rw (← e, f)
