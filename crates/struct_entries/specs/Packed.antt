-- Lists of structs stored in a lent list of numbers.
use Rattle.std.specs.Prelude.{◌≡◌, ℕ, ◌+◌, List, [], ◌∷◌, leb, length}
use Rattle.format.specs.Prelude.{pick}
use Rattle.format.specs.Put.{put}

-- xs with ns from p on where they fit, else xs
unfoldable pub stored : List ℕ → ℕ → List ℕ → List ℕ
stored xs p ns = pick (leb (p + length ns) (length xs)) (put xs p ns) xs

-- xs with the numbers of each struct, one after the other from p on, each where it fits
unfoldable pub stored_all : {A : Type 0} → (A → List ℕ) → List ℕ → ℕ → List A → List ℕ
stored_all one xs p [] = xs
stored_all one xs p (y ∷ ys) = stored_all one (stored xs p (one y)) (p + length (one y)) ys

-- what packing ns into the list xs answers, and what it leaves there: 54 and xs where they do not fit
pub record Packs (ns xs ys : List ℕ) (r : ℕ) : Type 0 where
  pub answer : r ≡ pick (leb (length ns) (length xs)) 0 54
  pub list : ys ≡ stored xs 0 ns
