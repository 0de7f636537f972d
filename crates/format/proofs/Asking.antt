-- A test at each number of a range, and of each element of a list, asked by `all` of an iterator.
use mathlib.Core.Path.{◌≡◌, refl, ap}
use Prim.Native.Nat.{ℕ, zero, suc}
use native.Mathlib.Numerals.{add-one}
use mathlib.Core.Bool.{Bool, ◌&&◌}
use mathlib.Core.List.{List, [], ◌∷◌}
use Rattle.std.specs.List.{range_with_len, list_all}
use Rattle.format.specs.Prelude.{all, each}
use Rattle.format.specs.Lists.{all_in}

pub all_in_range : (test : ℕ → Bool) (at n : ℕ) → list_all test (range_with_len at n) ≡ all_in test at n
unfolding all_in all each
all_in_range test at zero = refl
all_in_range test at (suc n) = rw (add-one at) (ap (λ b. test at && b) (all_in_range test (suc at) n))

-- a test of each element of a list
pub all_listed : {A : Type 0} (test : A → Bool) (xs : List A) → list_all test xs ≡ all test xs
unfolding all
all_listed test [] = refl
all_listed test (x ∷ xs) = ap (λ b. test x && b) (all_listed test xs)
