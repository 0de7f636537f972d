-- Searches by number.
use Rattle.std.specs.Prelude.{◌≡◌, ℕ, zero, suc, ◌<◌, Bool, true, false, Option, Some, None, if◌then◌else◌}

-- the first of so many numbers, from i on, that passes a test
unfoldable pub first : (ℕ → Bool) → (count i : ℕ) → Option ℕ
first p zero i = None
first p (suc n) i = if p i then Some i else first p n (suc i)

-- what was found passes the test, and none before it does; or none does
abbrev pub IsFirst : (ℕ → Bool) → (count : ℕ) → Option ℕ → Type 0
IsFirst p count None = (j : ℕ) → j < count → p j ≡ false
IsFirst p count (Some i) = (i < count) × (p i ≡ true) × ((j : ℕ) → j < i → p j ≡ false)

abbrev pub FindsFirst : Type 0
FindsFirst = (p : ℕ → Bool) (count : ℕ) → IsFirst p count (first p count 0)
