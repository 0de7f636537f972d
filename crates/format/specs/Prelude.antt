-- Choice by a test, readers, and questions: the few shapes that the other definitions are made of.
use Rattle.std.specs.Prelude.{ℕ, zero, suc, Bool, true, false, ◌&&◌, List, [], ◌∷◌}
use Rattle.std.proofs.Math.Option.{Option, none, some}

-- the first where the test says yes, else the second
unfoldable pub pick {ℓ} : {X : Type ℓ} → Bool → X → X → X
pick true x y = x
pick false x y = y

-- what a reader makes of a list of bytes: a value and the bytes left, or nothing
abbrev pub Read : Type 0 → Type 0
Read A = Option (A × List ℕ)

-- what is read next, where something was read
unfoldable pub next : {A B : Type 0} → Read A → (A → List ℕ → Option B) → Option B
next none k = none
next (some p) k = k p.0 p.1

-- what follows from a value, where there is one
unfoldable pub after : {A B : Type 0} → Option A → (A → Option B) → Option B
after none k = none
after (some a) k = k a

-- a value, or the number of the question that was answered by no
pub data Result (A : Type 0) : Type 0 where
  good : A → Result A
  bad : ℕ → Result A

-- what follows from a value, where there is one
unfoldable pub onward : {A B : Type 0} → Result A → (A → Result B) → Result B
onward (good a) k = k a
onward (bad n) k = bad n

-- a value where there is one, else a no with the question's number
unfoldable pub or_else : {A : Type 0} → Option A → ℕ → Result A
or_else none n = bad n
or_else (some a) n = good a

-- a test that every element passes
unfoldable pub all : {A : Type 0} → (A → Bool) → List A → Bool
all f [] = true
all f (x ∷ xs) = f x && all f xs

-- the first element that passes a test
unfoldable pub first : {A : Type 0} → (A → Bool) → List A → Option A
first f [] = none
first f (x ∷ xs) = pick (f x) (some x) (first f xs)

-- f at n numbers from `at` on
unfoldable pub each : {A : Type 0} → (ℕ → A) → ℕ → ℕ → List A
each f at zero = []
each f at (suc n) = f at ∷ each f (suc at) n
