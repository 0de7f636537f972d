-- What the inner writers promise: the one record that their contracts state.
use mathlib.Core.Path.{◌≡◌}
use mathlib.Core.List.{List}
use Prim.Native.Nat.{ℕ, ◌+◌}
use lib.ListN.{length}
use Rattle.format.specs.Put.{put}

-- ys is xs with bs stored from p on, and q is the place past it
pub record Wrote (xs ys : List ℕ) (p q : ℕ) (bs : List ℕ) : Type 0 where
  pub past : q ≡ p + length bs
  pub stored : ys ≡ put xs p bs
