-- Going by `unwind_next_entry` from 0 on gives the reader's entries, and none where they do not tile the section.
use mathlib.Core.Path.{◌≡◌, refl, ◌∙◌}
use mathlib.Core.Bool.{Bool, true, false}
use mathlib.Core.Option.{Option, none, some}
use mathlib.Core.List.{List, [], ◌∷◌, map}
use Prim.Native.Nat.{ℕ, zero, suc, ◌≤◌, ◌<◌}
use native.Mathlib.Omega.{arith}
use borrow.Author.Tests.{ne_eqb}
use lib.Dec.{eqb}
use lib.ListN.{length}
use Rattle.format.specs.Prelude.{pick, after, Result, good, bad}
use Rattle.format.specs.Reader.{entries}
use Rattle.format.specs.Reader as reader
use Rattle.reader.specs.Listing.{shown, entry_at, joined, listing_f, listing}
use Rattle.reader.specs.declared.cursor.Entry.{Entry}
use Rattle.reader.proofs.Steps.{refused_by}
use Rattle.reader.proofs.Tiles.{listing_lists}
use Rattle.parts.specs.Entries.{stopped, entry_numbers, standing, next_entry}
use Rattle.parts.specs.declared.EntryRead.{EntryRead}
use Rattle.parts.proofs.Entered.{entry_there}

-- an answer in front of what follows it; 62 ends the walk
unfoldable pub walk_on : EntryRead → Option (List EntryRead) → Option (List EntryRead)
walk_on r more = pick (eqb r.number 0) (after more λ rs. some (r ∷ rs)) (pick (eqb r.number 62) (some []) none)

-- each next question is asked where the answer says; an entry has a byte at least, so the length is fuel enough
unfoldable pub walk_f : ℕ → (section : List ℕ) (kind at : ℕ) → Option (List EntryRead)
walk_f zero section kind at = none
walk_f (suc f) section kind at = walk_on (next_entry section kind at) (walk_f f section kind (next_entry section kind at).next)

unfoldable pub walk : (section : List ℕ) (kind : ℕ) → Option (List EntryRead)
walk section kind = walk_f (suc (length section)) section kind 0

numbered : Option (List Entry) → Option (List EntryRead)
numbered o = after o λ es. some (map entry_numbers es)

behind : (e : Entry) (o : Option (List Entry)) → after (numbered o) (λ rs. some (entry_numbers e ∷ rs)) ≡ numbered (after o λ es. some (e ∷ es))
unfolding numbered after
behind e none = refl
behind e (some es) = refl

stops : (end? : Bool) → pick end? (some []) none ≡ numbered (pick end? (some []) none)
unfolding numbered after pick
stops true = refl
stops false = refl

on_joined : (at : ℕ) (x : Result Entry) (more : ℕ → Option (List Entry)) → ((n : ℕ) → x ≡ bad n → 0 < n)
    → walk_on (standing at x) (numbered (more (standing at x).next)) ≡ numbered (joined x more)
unfolding walk_on joined standing stopped entry_numbers pick
on_joined at (good e) more h = behind e (more e.next)
on_joined at (bad n) more h = rw (ne_eqb n 0 (λ z. omega (arith, h n refl))) (stops (eqb n 62))

module _ (section : List ℕ) (kind : ℕ) (k : kind ≤ 1) where
  walked : (f at : ℕ) → walk_f f section kind at ≡ numbered (listing_f f (eqb kind 1) section at)
  unfolding walk_f listing_f numbered after
  walked zero at = refl
  walked (suc f) at =
      let x : Result Entry = entry_at (eqb kind 1) section at in
      rw (entry_there section kind at k, walked f (standing at x).next)
      (on_joined at x (listing_f f (eqb kind 1) section) (λ n e. refused_by (eqb kind 1) section at e))

  shown_all : (o : Option (List reader.Entry)) → numbered (after o λ es. some (map (shown (eqb kind 1)) es)) ≡ after o λ es. some (map entry_numbers (map (shown (eqb kind 1)) es))
  unfolding numbered after
  shown_all none = refl
  shown_all (some es) = refl

  pub walk_entries : walk section kind ≡ after (entries section) λ es. some (map entry_numbers (map (shown (eqb kind 1)) es))
  unfolding walk listing
  walk_entries = walked (suc (length section)) 0 ∙ rw (listing_lists (eqb kind 1) section).shows (shown_all (entries section))
