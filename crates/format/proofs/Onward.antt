-- Steps of which each goes on from the last.
use mathlib.Core.Path.{◌≡◌, refl}
use mathlib.Core.Bool.{Bool, true, false}
use Rattle.format.specs.Prelude.{Result, good, bad, pick, onward}

pub onward_assoc : {A B C : Type 0} (a : Result A) (f : A → Result B) (g : B → Result C) → onward a (λ x. onward (f x) g) ≡ onward (onward a f) g
unfolding onward
onward_assoc (good a) f g = refl
onward_assoc (bad n) f g = refl

-- steps that go on alike
pub onward_ext : {A B : Type 0} (a : Result A) (f g : A → Result B) → ((t : A) → f t ≡ g t) → onward a f ≡ onward a g
unfolding onward
onward_ext (good a) f g h = h a
onward_ext (bad n) f g h = refl

-- question 11 in front of the first step, or of all of them
pub onward_pick : {A B : Type 0} (b : Bool) (x : Result A) (f : A → Result B) → pick b (onward x f) (bad 11) ≡ onward (pick b x (bad 11)) f
unfolding pick onward
onward_pick true x f = refl
onward_pick false x f = refl
