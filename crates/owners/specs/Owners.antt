-- Keys by a function's number, and the first function that has the key of another.
use Rattle.std.specs.Prelude.{◌≡◌, ℕ, zero, suc, ◌<◌, Bool, List, get_or, MatchOption}
use Rattle.std.specs.Prelude as code
use Rattle.format.specs.Prelude.{pick}
use Rattle.format.specs.declared.Machine.{Machine}
use Rattle.format.specs.declared.Row.{Row}
use Rattle.format.specs.declared.Row.TheVariants.{RememberState}
use Rattle.format.specs.Rows.{same_row}
use Rattle.format.specs.Headers.{Key, leading, same_key}
use Rattle.lists.specs.declared.Extent.{Extent}
use Rattle.header_keys.specs.Functions.{body_of, key_in}
use Rattle.header_keys.specs.Inputs.{Inputs, extent_in}

-- the key of function j as the section takes it
abbrev pub key_at : Inputs → ℕ → Key
key_at x j = key_in x.machine (extent_in x j) x.rows

-- the first of n numbers from j on that passes a test, or the number past them
unfoldable pub first_from : (ℕ → Bool) → (j n : ℕ) → ℕ
first_from test j zero = j
first_from test j (suc n) = pick (test j) j (first_from test (suc j) n)

-- the first earlier function of function k's key, or k
unfoldable pub owner : Inputs → ℕ → ℕ
owner x k = first_from (λ j. same_key (key_at x j) (key_at x k)) 0 k

-- where a function in front of function k has its key, the first of them
abbrev pub EarlierOwner : Inputs → ℕ → code.Option ℕ → Type 0
EarlierOwner x k r = MatchOption r (owner x k ≡ k) (λ o. (o ≡ owner x k) × (o < k))

-- a function's leading rows
abbrev pub leading_in : Machine → Extent → (rows : List ℕ) → List Row
leading_in m e rows = leading m (body_of e rows)

abbrev pub leading_of : Inputs → Extent → List Row
leading_of x e = leading_in x.machine e x.rows

-- row i of two lists is the same
unfoldable pub same_at : (as1 bs : List Row) → ℕ → Bool
same_at as1 bs i = same_row (get_or as1 i RememberState) (get_or bs i RememberState)
