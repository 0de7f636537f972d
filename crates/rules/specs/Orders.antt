-- What the state of the row check means: the part of the check that is left.
use Rattle.std.specs.Prelude.{◌≡◌, ℕ, Bool, true, false, ◌&&◌, List, ◌∷◌, reverse, take, eqb, Option, Some, None}
use Rattle.format.specs.Prelude.{pick, all}
use Rattle.format.specs.declared.Row.{Row}
use Rattle.format.specs.Rows.{RowAt}
use Rattle.format.specs.Headers.{ahead}
use Rattle.format.specs.RowCheck.{may_lead, in_order, rows_of, row_check}
use Rattle.rules.specs.declared.Order.{Order}

-- those of the rows that lead may; where the rows before do not lead there are none
unfoldable pub leaders_ok : (leading : Bool) → List RowAt → Bool
leaders_ok leading xs = pick leading (all may_lead (ahead xs)) true

-- the check of the rows that follow: the open ones, the last first
unfoldable pub follow : Order → List RowAt → Bool
follow o xs = leaders_ok o.leading xs && in_order o.framed (reverse (take o.depth o.marks)) (rows_of xs)

-- where a row may not stand, a no
abbrev pub follow_some : Option Order → List RowAt → Bool
follow_some None xs = false
follow_some (Some o) xs = follow o xs

-- the state before the first row
pub record Starts (simple : Bool) (o : Order) : Type 0 where
  pub whole : (xs : List RowAt) → row_check simple xs ≡ follow o xs

-- a row that opens and closes nothing
unfoldable pub passing : (ok : Bool) (o : Order) (first framed : Bool) → Option Order
passing ok o first framed =
    pick ok (Some (record { leading = first; framed = framed; depth = o.depth; marks = o.marks; deep = o.deep; long = o.long })) None

-- what a row does, where `first` says that it is at offset 0 behind rows that all lead: whatever rows follow, it decides with them
pub record Steps (o : Order) (first : Bool) (r : Row) (s : Option Order) : Type 0 where
  pub decides : (offset : ℕ) → first ≡ o.leading && eqb offset 0 → (xs : List RowAt) → follow o ((offset, r) ∷ xs) ≡ follow_some s xs

-- the check of a row, or of what is no row, and of the rows that follow it
abbrev pub follow_given : Order → Option RowAt → List RowAt → Bool
follow_given o None xs = false
follow_given o (Some x) xs = follow o (x ∷ xs)

-- what a row, or what is none, does: whatever rows follow, it decides with them
pub record Follows (o : Order) (given : Option RowAt) (s : Option Order) : Type 0 where
  pub decides : (xs : List RowAt) → follow_given o given xs ≡ follow_some s xs
