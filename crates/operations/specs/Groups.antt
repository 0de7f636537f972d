-- What the loop over the bytes of a LEB number finds, for both kinds of numbers.
use Rattle.std.specs.Prelude.{◌≡◌, List, ℕ, ◌+◌, ◌*◌, ◌^◌, ◌≤◌, ◌<◌, length, drop, Option, Some, None}
use Rattle.std.proofs.Math.Option.{none, some}
use Rattle.format.specs.Leb.{read_uleb_f, last7, read_sleb_f}
use Rattle.operations.specs.Signs.{under}
use Rattle.operations.specs.declared.fields.Groups.{Groups}

-- the last byte b stands in front of q; the k groups before it make acc, below the scale
pub record Found (s : List ℕ) (p b k scale acc q : ℕ) : Type 0 where
  pub few : k ≤ 9
  pub scaled : scale ≡ 128 ^ k
  pub below : acc < scale
  pub last : b < 128
  pub ahead : p < q
  pub inside : q ≤ length s
  pub unsigned : read_uleb_f 10 (drop p s) ≡ some (b * scale + acc, drop q s)
  pub signed : read_sleb_f 10 (drop p s) ≡ some (under scale acc (last7 b), drop q s)

abbrev pub GroupsAt : List ℕ → ℕ → Option Groups → Type 0
GroupsAt s p (Some g) = Found s p g.top g.count g.scale g.low g.end
GroupsAt s p None = (read_uleb_f 10 (drop p s) ≡ none) × (read_sleb_f 10 (drop p s) ≡ none)
