-- The end of an entry.
use Rattle.std.specs.Prelude.{◌≡◌, List, ℕ, ◌+◌, ◌-◌, replicate}
use Rattle.format.specs.Leb.{little}
use Rattle.format.specs.Put.{put}
use Rattle.format.specs.Headers.{padding}

-- what `pad` does: ys is xs with zeros stored from `at` up to the place r, and the length over the 4 bytes at `start`
pub record Closed (xs ys : List ℕ) (start at align r : ℕ) : Type 0 where
  pub past : r ≡ at + padding align at
  pub stored : ys ≡ put (put xs at (replicate (padding align at) 0)) start (little 4 (r - start - 4))
