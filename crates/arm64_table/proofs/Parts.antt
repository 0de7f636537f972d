-- Loops over n functions that each have a part of a list, one behind the other: how much of it is counted, or stored.
use mathlib.Core.Path.{◌≡◌, sym, ◌∙◌}
use Prim.Native.Nat.{ℕ, ◌+◌, ◌-◌, ◌≤◌, ◌<◌}
use native.Mathlib.Omega.{arith}
use mathlib.Core.List.{List, ◌++◌}
use lib.ListN.{length, length-append}
use Rattle.format.specs.Prelude.{each}
use Rattle.format.specs.Put.{put}
use Rattle.format.specs.Writer.{joined}
use Rattle.format.proofs.Storing as storing
use Rattle.format.proofs.Storing.{Storing, stored_next}
use Rattle.format.proofs.Wrote.{Wrote}
use Rattle.format.proofs.ListLaws.{each_next, each_none}

-- the parts of the functions from k on
abbrev from : (part : ℕ → List ℕ) (n k : ℕ) → List ℕ
from part n k = joined (each part k (n - k))

from_first : (part : ℕ → List ℕ) (n : ℕ) → from part n 0 ≡ joined (each part 0 n)
from_first part n = let e : n - 0 ≡ n = omega arith in rw e

from_next : (part : ℕ → List ℕ) (n k : ℕ) → k < n → from part n k ≡ part k ++ from part n (k + 1)
unfolding joined
from_next part n k h = rw (each_next part n k h)

-- ---- counting

-- the parts in front of k have `sum` numbers
pub record Counted (part : ℕ → List ℕ) (n k sum : ℕ) : Type 0 where
  pub high : k ≤ n
  pub rest : length (joined (each part 0 n)) ≡ sum + length (from part n k)

pub counted : (part : ℕ → List ℕ) (n : ℕ) → Counted part n 0 0
counted part n = record { high = omega arith; rest = rw (from_first part n) (omega arith) }

module _ {part : ℕ → List ℕ} {n k sum : ℕ} (c : Counted part n k sum) where
  pub count_next : {x : ℕ} → k < n → x ≡ length (part k) → Counted part n (k + 1) (sum + x)
  count_next h e = record {
    high = omega arith;
    rest = c.rest ∙ rw (from_next part n k h, length-append, ← e) (omega arith);
  }

  pub all_counted : n ≤ k → sum ≡ length (joined (each part 0 n))
  unfolding joined
  all_counted h = sym (c.rest ∙ rw (each_none part n k h) (omega arith))

-- ---- storing

-- the parts in front of k are stored, and the next one goes to `to`
pub record Filled (part : ℕ → List ℕ) (n : ℕ) (xs₀ xs : List ℕ) (k to : ℕ) : Type 0 where
  pub high : k ≤ n
  pub left : Storing xs₀ xs 0 to (joined (each part 0 n)) (from part n k)

pub filled : (part : ℕ → List ℕ) (n : ℕ) {xs : List ℕ} → length (joined (each part 0 n)) ≤ length xs → Filled part n xs xs 0 0
filled part n h = record { high = omega arith; left = rw (from_first part n) (storing.start (omega arith)) }

module _ {part : ℕ → List ℕ} {n : ℕ} {xs₀ xs : List ℕ} {k to : ℕ} (d : Filled part n xs₀ xs k to) where
  next : k < n → Storing xs₀ xs 0 to (joined (each part 0 n)) (part k ++ from part n (k + 1))
  next h = rw (from_next part n k h) at d.left

  pub room_for_lem : k < n → to + length (part k) ≤ length xs
  room_for_lem h = omega (arith, (next h).room, length-append (part k) (from part n (k + 1)))

  pub fill_next : {ys : List ℕ} {q : ℕ} → k < n → Wrote xs ys to q (part k) → Filled part n xs₀ ys (k + 1) q
  fill_next h w = record { high = omega arith; left = stored_next _ (next h) w }

  pub all_filled : n ≤ k → xs ≡ put xs₀ 0 (joined (each part 0 n))
  unfolding joined
  all_filled h = (storing.ended (rw (each_none part n k h) at d.left)).stored
