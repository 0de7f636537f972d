-- A number in groups of seven bits, the lowest first: what the unsigned and the signed LEB number have in common.
use Rattle.std.specs.Prelude.{ℕ, zero, suc, ◌+◌, ◌/◌, ◌%◌, Bool, List, [], ◌∷◌, ltb}
use Rattle.format.specs.Prelude.{pick}
use Rattle.format.specs.Leb.{bits7}

-- in at most f + 1 bytes; the last group is the first that is below `last`
unfoldable pub groups_f : (last : ℕ) → Bool → ℕ → ℕ → List ℕ
groups_f last s zero n = bits7 s n ∷ []
groups_f last s (suc f) n = pick (ltb n last) (bits7 s n ∷ []) ((bits7 s (n % 128) + 128) ∷ groups_f last s f (n / 128))

-- 64 bits fit ten bytes
unfoldable pub groups : (last : ℕ) → Bool → ℕ → List ℕ
groups last s n = groups_f last s 9 n
