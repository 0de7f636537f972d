-- Storing a list into a lent buffer.
use Rattle.std.specs.Prelude.{List, [], ◌∷◌, ℕ, ◌+◌, set}

-- the buffer xs with bs stored from p on, one element after the other; past its end nothing is stored
unfoldable pub put : List ℕ → ℕ → List ℕ → List ℕ
put xs p [] = xs
put xs p (b ∷ bs) = put (set xs p b) (p + 1) bs
