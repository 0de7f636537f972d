-- What holds of each element of a list, and the first element that passes a test.
use mathlib.Core.Path.{◌≡◌, ◌∙◌}
use mathlib.Core.Bool.{Bool, not}
use mathlib.Core.Option.{some}
use mathlib.Core.List.{List, [], ◌∷◌, ◌++◌}
use lib.Dec.{T}
use Rattle.format.specs.Prelude.{first}
use Rattle.format.proofs.Choice.{pick_yes, pick_no}

abbrev pub Each : {A : Type 0} → (A → Type 0) → List A → Type 0
Each P [] = Unit {0}
Each P (x ∷ xs) = P x × Each P xs

pub each_join : {A : Type 0} (P : A → Type 0) (xs ys : List A) → Each P xs → Each P ys → Each P (xs ++ ys)
each_join P [] ys h k = k
each_join P (x ∷ xs) ys h k = (h.0, each_join P xs ys h.1 k)

pub each_then : {A : Type 0} (P Q : A → Type 0) (xs : List A) → ((x : A) → P x → Q x) → Each P xs → Each Q xs
each_then P Q [] f h = tt
each_then P Q (x ∷ xs) f h = (f x h.0, each_then P Q xs f h.1)

-- no element of xs passes, and the next does
pub first_behind : {A : Type 0} (test : A → Bool) (xs : List A) (y : A) (ys : List A) → Each (λ x. T (not (test x))) xs → T (test y)
    → first test (xs ++ (y ∷ ys)) ≡ some y
unfolding first
first_behind test [] y ys h t = pick_yes (test y) (some y) (first test ys) t
first_behind test (x ∷ xs) y ys h t = pick_no (test x) (some x) (first test (xs ++ (y ∷ ys))) h.0 ∙ first_behind test xs y ys h.1 t
