-- Walking with the cursor from the first position on gives the entries that the reader means, and none where they do not tile the section.
use mathlib.Core.Path.{◌≡◌, refl, ◌∙◌}
use mathlib.Core.Bool.{Bool}
use mathlib.Core.Option.{Option, none, some}
use mathlib.Core.List.{List, [], ◌∷◌, map}
use Prim.Native.Nat.{ℕ, zero, suc, ◌+◌, ◌≤◌, ◌<◌}
use native.Mathlib.Omega.{arith}
use lib.ListN.{length}
use Rattle.format.specs.Prelude.{pick, after}
use Rattle.format.specs.Reader.{entries}
use Rattle.format.specs.Reader as reader
use Rattle.format.proofs.Choice.{either}
use Rattle.reader.specs.Spans.{entry_in, entries_from, end_at}
use Rattle.std.specs.Prelude.{Some, None}
use Rattle.std.specs.Prelude as code
use Rattle.reader.proofs.Tiling.{Entered, entered, tiled_end, tiled_none, tiled_more}
use Rattle.reader.specs.Listing.{shown, entry_at, joined, listing_f, listing}
use Rattle.reader.specs.declared.cursor.Entry.{Entry}
use Rattle.reader.proofs.Steps.{spanned, shown_span, at_end_lem, at_none, at_there}

-- the reader's entries where the cursor found some: each with its place, and its bytes behind the length up to the next place
abbrev pub tiled : List ℕ → Option (List Entry) → Option (List reader.Entry)
tiled s found = after found λ es. some (map (λ (e : Entry). entry_in s e.place e.next) es)

-- the cursor found the entries r, and says of each what the reader says
pub record Lists (debug : Bool) (s : List ℕ) (found : Option (List Entry)) (r : Option (List reader.Entry)) : Type 0 where
  pub tiles : tiled s found ≡ r
  pub shows : found ≡ after r λ es. some (map (shown debug) es)

module _ (debug : Bool) (s : List ℕ) where
  lists_none : Lists debug s none none
  unfolding after
  lists_none = record { tiles = refl; shows = refl }

  lists_end : Lists debug s (some []) (some [])
  unfolding after
  lists_end = record { tiles = refl; shows = refl }

  module _ (p q : ℕ) where
    tiles_more : (found : Option (List Entry)) → tiled s (after found λ es. some (spanned debug s p q ∷ es)) ≡ after (tiled s found) λ es. some (entry_in s p q ∷ es)
    unfolding after
    tiles_more none = refl
    tiles_more (some es) = refl

    shows_more : Entered s p q → (r : Option (List reader.Entry))
        → after (after r λ es. some (map (shown debug) es)) (λ es. some (spanned debug s p q ∷ es)) ≡ after (after r λ es. some (entry_in s p q ∷ es)) λ es. some (map (shown debug) es)
    unfolding after
    shows_more a none = refl
    shows_more a (some es) = rw (shown_span debug s p q a.long a.inside)

    lists_more : Entered s p q → {found : Option (List Entry)} {r : Option (List reader.Entry)} → Lists debug s found r
        → Lists debug s (after found λ es. some (spanned debug s p q ∷ es)) (after r λ es. some (entry_in s p q ∷ es))
    lists_more a {found} {r} l = record { tiles = tiles_more found ∙ rw l.tiles; shows = rw l.shows (shows_more a r) }

  from_end : (f p : ℕ) (o : code.Option ℕ) → end_at s p ≡ o → p < length s → ((q : ℕ) → p < q → q ≤ length s → Lists debug s (listing_f f debug s q) (entries_from s q))
      → Lists debug s (joined (entry_at debug s p) (listing_f f debug s)) (entries_from s p)
  unfolding joined pick
  from_end f p None e h more = rw (at_none debug s p h e, tiled_none s p h e) lists_none
  from_end f p (Some q) e h more =
      let a = entered s p e in
      rw (at_there debug s p h e, tiled_more s p h e)
      (lists_more p q a (more q (omega (arith, a.long)) a.inside))

  -- more fuel than bytes is enough
  from : (f p : ℕ) → length s < p + f → p ≤ length s → Lists debug s (listing_f f debug s p) (entries_from s p)
  unfolding listing_f joined pick
  from zero p h l = absurd (omega arith)
  from (suc f) p h l =
      either (length s) p
      (λ k. rw (at_end_lem debug s p k, tiled_end s p k) lists_end)
      (λ k. from_end f p (end_at s p) refl k (λ q m n. from f q (omega arith) n))

  pub listing_lists : Lists debug s (listing debug s) (entries s)
  unfolding listing entries entries_from
  listing_lists = from (suc (length s)) 0 (omega arith) (omega arith)
