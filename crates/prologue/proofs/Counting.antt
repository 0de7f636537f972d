-- The steps of a prologue, as the code compares them.
use mathlib.Core.Path.{◌≡◌, refl}
use mathlib.Core.Bool.{Bool, true, false}
use denote.Enum.Bare.{sameb}
use Rattle.format.specs.Prelude.{pick}
use Rattle.prologue.specs.contracts.Steps.{the_type}
use Rattle.prologue.specs.declared.Steps.{Steps}
use Rattle.prologue.specs.declared.Steps.TheVariants.{NoStep, PointerPushed, Others}
use Rattle.prologue.specs.Groups.{counted, is_pushed}

pub same_pushed : (s : Steps) → sameb the_type s PointerPushed ≡ is_pushed s
unfolding is_pushed
same_pushed NoStep = refl
same_pushed PointerPushed = refl
same_pushed Others = refl

-- by the code's tests
pub first_push : (s : Steps) {pushes : Bool} → pushes ≡ true → true ≡ sameb the_type s NoStep → PointerPushed ≡ counted s pushes
unfolding counted pick
first_push NoStep p e = rw p
first_push PointerPushed p e = cc
first_push Others p e = cc

pub no_push : (s : Steps) {pushes : Bool} → pushes ≡ false → Others ≡ counted s pushes
unfolding counted pick
no_push NoStep p = rw p
no_push PointerPushed p = refl
no_push Others p = refl

pub more_steps : (s : Steps) (pushes : Bool) → false ≡ sameb the_type s NoStep → Others ≡ counted s pushes
unfolding counted
more_steps NoStep pushes e = cc
more_steps PointerPushed pushes e = refl
more_steps Others pushes e = refl
