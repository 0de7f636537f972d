-- The pass over the entries: how many records are passed, which places of headers are kept, and what is answered of the rest.
use mathlib.Core.Path.{◌≡◌, refl, sym, ap, ◌∙◌}
use mathlib.Core.Bool.{Bool, true, false, ◌&&◌}
use mathlib.Core.Logic.{◌≢◌}
use mathlib.Core.Option.{Option, none, some}
use mathlib.Core.List.{List, ◌∷◌}
use Prim.Native.Nat.{ℕ, suc, ◌+◌, ◌/◌, ◌≤◌, ◌<◌}
use native.Mathlib.Omega.{arith}
use native.Mathlib.Decide.{ℕ_discrete}
use native.Mathlib.Numerals.{add-one}
use borrow.Author.Tests.{eq-eqb, ne_eqb, lt-ltb, le-ltb}
use lib.Dec.{T, ltb, eqb}
use lib.ListN.{length, get_or, set, get_elem?, replicate, get_or-replicate, length-replicate, get_or-eq_default}
use lib.Seq.{set_out, get_or-set_same, get_or-set_other}
use Rattle.format.specs.Prelude.{pick}
use Rattle.format.proofs.Choice.{if-le, if-gt, either}
use Rattle.format.specs.Machine.{is_word_size}
use Rattle.format.specs.Questions.{is_some}
use Rattle.format.specs.Reader.{Entry, entries, is_header, records}
use Rattle.reader.specs.Spans.{entry_in, entries_from, listed, Ends, Ahead}
use Rattle.reader.proofs.Tiling.{tiled_end}
use Rattle.reader.proofs.Seeking.{first_ahead, header_later}
use Rattle.reader.proofs.Searches.{records_header}
use Rattle.section_check.specs.Check.{passes, saying, check_from}
use Rattle.section_check.specs.Places.{Marks, marked, mark_before, passes_in}
use Rattle.section_check.proofs.Entries.{passes_same}

-- the records of a section, and of what stands from a position on
abbrev records_in : List ℕ → List Entry
records_in s = records false (listed (entries s))

abbrev records_from : List ℕ → ℕ → List Entry
records_from s at = records false (listed (entries_from s at))

-- in front of `at` stand k records, and those from `at` on decide
pub record Passing (s : List ℕ) (word : ℕ) (marks : List ℕ) (k at : ℕ) : Type 0 where
  pub few : k ≤ at
  pub tiles : T (is_some (entries s))
  pub rest : check_from s word 0 (records_in s) ≡ check_from s word k (records_from s at)
  pub numbered : (j : ℕ) → get_elem? (records_in s) (k + j) ≡ get_elem? (records_from s at) j
  pub ahead : Ahead s at
  pub marks_ahead : Marks s marks

-- ---- the marks

zeros : (n i : ℕ) → ◌≡◌ {A = ℕ} (get_or (replicate n 0) i 0) 0
zeros n i = either (suc i) n (λ h. get_or-replicate {A = ℕ} n i 0 0 h) (λ h. get_or-eq_default (replicate n 0) 0 {n = i} (omega (arith, length-replicate {A = ℕ} n 0)))

pub no_marks : (s : List ℕ) (n : ℕ) → T (is_some (entries s)) → Marks s (replicate n 0)
no_marks s n t i = rw (zeros n i) (first_ahead s t)

stored : (s marks : List ℕ) (at j : ℕ) → Ahead s at → Marks s marks → Marks s (set marks j at)
stored s marks at j a m i =
    elim (ℕ_discrete i j) [
      | yes e ↦
          either (suc j) (length marks)
          (λ h. rw (e, get_or-set_same marks j at 0 h) a)
          (λ h. rw (set_out marks j at (omega arith)) (m i))
      | no e ↦ rw (get_or-set_other marks j i at 0 e) (m i)
    ]

chosen : (s : List ℕ) (b : Bool) (xs ys : List ℕ) → Marks s xs → Marks s ys → Marks s (pick b xs ys)
unfolding pick
chosen s true xs ys m n = m
chosen s false xs ys m n = n

pub marked_ahead : (s marks : List ℕ) (step at : ℕ) → Ahead s at → Marks s marks → Marks s (marked step at marks)
unfolding marked
marked_ahead s marks step at a m =
    chosen s (ltb (at / step) (length marks) && eqb (get_or marks (at / step) 0) 0) (set marks (at / step) at) marks (stored s marks at (at / step) a m) m

-- where the search for a place starts
module _ (marks : List ℕ) (step place : ℕ) where
  abbrev there : ℕ
  there = get_or marks (place / step) 0

  at_mark : there ≤ place → mark_before step place marks ≡ there
  unfolding mark_before
  at_mark h = if-le there place there 0 h

  at_start : place < there → mark_before step place marks ≡ 0
  unfolding mark_before
  at_start h = if-gt there place there 0 h

  pub before_ahead : (s : List ℕ) → Marks s marks → Ahead s (mark_before step place marks)
  before_ahead s m =
      either there place
      (λ h. rw (at_mark h) (m (place / step)))
      (λ h. rw (at_start h) (rw (get_or-eq_default marks 0 {n = length marks} (omega arith)) at (m (length marks))))

  pub before_place : mark_before step place marks ≤ place
  before_place = either there place (λ h. rw (at_mark h) h) (λ h. rw (at_start h) (omega arith))

  -- the code's tests
  pub no_mark : length marks ≤ place / step → 0 ≡ mark_before step place marks
  no_mark h = let z = get_or-eq_default marks 0 {n = place / step} h in sym (at_mark (omega arith) ∙ z)

  pub mark_there : there ≤ place → there ≡ mark_before step place marks
  mark_there h = sym (at_mark h)

  pub mark_past : place < there → 0 ≡ mark_before step place marks
  mark_past h = sym (at_start h)

module _ (marks : List ℕ) (step at : ℕ) where
  pub no_stretch : length marks ≤ at / step → marks ≡ marked step at marks
  unfolding marked pick
  no_stretch h = rw (le-ltb (at / step) (length marks) h)

  module _ (h : at / step < length marks) where
    pub mark_kept : (get_or marks (at / step) 0 ≡ 0 → ⊥) → marks ≡ marked step at marks
    unfolding marked pick
    mark_kept n = rw (lt-ltb (at / step) (length marks) h, ne_eqb (get_or marks (at / step) 0) 0 n)

    pub mark_set : get_or marks (at / step) 0 ≡ 0 → set marks (at / step) at ≡ marked step at marks
    unfolding marked pick
    mark_set z = rw (lt-ltb (at / step) (length marks) h, eq-eqb (get_or marks (at / step) 0) 0 z)

-- a search from such a position
-- a header further on is not the entry at `at`
pub ahead_on : {s : List ℕ} {at end : ℕ} → Ahead s at → Ends s at end → Ahead s end
ahead_on {s} {at} {end} a e =
    record {
      inside = e.inside;
      tiled = e.tiled;
      found = λ debug place before l.
          let n : at ≢ place = λ (z : at ≡ place). omega (arith, e.long) in
          a.found debug place before (omega (arith, e.long))
          ∙ rw e.rest (header_later debug place before (entry_in s at end) (listed (entries_from s end)) (rw (ne_eqb at place n) refl));
    }

-- ---- the pass

skipped : (s : List ℕ) (at end : ℕ) → is_header false (entry_in s at end) ≡ true → records false (entry_in s at end ∷ listed (entries_from s end)) ≡ records_from s end
unfolding records pick
skipped s at end t = rw t

kept_first : (s : List ℕ) (at end : ℕ) → is_header false (entry_in s at end) ≡ false
    → records false (entry_in s at end ∷ listed (entries_from s end)) ≡ entry_in s at end ∷ records_from s end
unfolding records pick
kept_first s at end t = rw t

whole : (o : Option (List Entry)) → T (is_some o) → o ≡ some (listed o)
unfolding is_some listed
whole none t = absurd t
whole (some es) t = refl

pub start : (s : List ℕ) (word : ℕ) → T (is_some (entries s)) → Passing s word (replicate 2048 0) 0 0
unfolding entries entries_from
start s word t =
    record {
      few = omega arith;
      tiles = t;
      rest = refl;
      numbered = λ j. let m : 0 + j ≡ j = omega arith in rw m;
      ahead = first_ahead s t;
      marks_ahead = no_marks s 2048 t;
    }

module _ {s : List ℕ} {word : ℕ} {marks : List ℕ} {k at : ℕ} (i : Passing s word marks k at) {end : ℕ} (e : Ends s at end) where
  -- the marks after this entry
  pub marks_on : (step : ℕ) {now : List ℕ} → now ≡ marked step at marks → Marks s now
  marks_on step same = rw same (marked_ahead s marks step at i.ahead i.marks_ahead)

  -- past a header
  pub past_header : (step : ℕ) {now : List ℕ} → now ≡ marked step at marks → is_header false (entry_in s at end) ≡ true → Passing s word now k end
  past_header step same t =
      record {
        few = omega (arith, e.long, i.few);
        tiles = i.tiles;
        rest = i.rest ∙ rw e.rest (ap (check_from s word k) (skipped s at end t));
        numbered = λ n. i.numbered n ∙ rw e.rest (ap (λ (es : List Entry). get_elem? es n) (records_header false (entry_in s at end) (listed (entries_from s end)) t));
        ahead = ahead_on i.ahead e;
        marks_ahead = marks_on step same;
      }

  -- a record
  module _ (t : is_header false (entry_in s at end) ≡ false) (w : T (is_word_size word)) where
    listed_first : records_from s at ≡ entry_in s at end ∷ records_from s end
    listed_first = rw e.rest (kept_first s at end t)

    is_record : get_elem? (records_in s) k ≡ some (entry_in s at end)
    is_record = let n : k ≡ k + 0 = omega arith in rw n (i.numbered 0 ∙ rw listed_first)

    tested_as : passes s word k (entry_in s at end) ≡ passes_in s word (entry_in s at end)
    tested_as = passes_same s word k w (listed (entries s)) (whole (entries s) i.tiles) (entry_in s at end) is_record

    one_more : check_from s word 0 (records_in s) ≡ pick (passes_in s word (entry_in s at end)) (check_from s word (suc k) (records_from s end)) (saying 84 k)
    unfolding check_from
    one_more = i.rest ∙ rw (listed_first, tested_as)

    pub fails_here : passes_in s word (entry_in s at end) ≡ false → saying 84 k ≡ check_from s word 0 (records_in s)
    unfolding pick
    fails_here f = sym (one_more ∙ rw f)

    pub past_record : (step : ℕ) {now : List ℕ} → now ≡ marked step at marks → passes_in s word (entry_in s at end) ≡ true → Passing s word now (k + 1) end
    unfolding pick
    past_record step same y =
        record {
          few = omega (arith, e.long, i.few);
          tiles = i.tiles;
          rest = one_more ∙ rw (y, add-one);
          numbered = λ n. let m : k + 1 + n ≡ k + suc n = omega arith in rw m (i.numbered (suc n) ∙ rw listed_first);
          ahead = ahead_on i.ahead e;
          marks_ahead = marks_on step same;
        }

pub ended : {s : List ℕ} {word : ℕ} {marks : List ℕ} {k at : ℕ} → Passing s word marks k at → length s ≤ at → saying 0 0 ≡ check_from s word 0 (records_in s)
unfolding check_from records listed
ended {s} {word} {marks} {k} {at} i h = sym (i.rest ∙ rw (tiled_end s at h))
