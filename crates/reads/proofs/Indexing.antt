-- The header of a record by its place, and the index stored number by number.
use Rattle.std.proofs.Common.{◌≡◌, ℕ, zero, suc, ◌+◌, ◌-◌, ◌*◌, ◌/◌, ◌^◌, ◌<◌, ◌≤◌, Bool, true, false, ◌&&◌, T, eqb, ltb, leb, List, [], ◌∷◌, length, get_or, set, sym, refl, ap, ◌∙◌, subst, arith, length-set, MatchOption, le-ltb, lt-ltb, eq-eqb}
use mathlib.Core.Option.{Option, none, some}
use mir.Facts.{eqb_yes}
use Rattle.std.specs.Option.{option_eq, unwrap_or}
use Rattle.std.proofs.lemmas.Bool.{eqb-true}
use Rattle.format.specs.Prelude.{pick, after, first, Result, good, bad, onward, or_else}
use Rattle.format.specs.Put.{put}
use Rattle.format.proofs.Asked.{option_of, value_is, none_is}
use Rattle.std.specs.Prelude.{Some, None, Ok, Err}
use Rattle.std.specs.Prelude as code
use Rattle.format.specs.Questions.{is_some}
use Rattle.format.specs.Lists.{Relocation, relocations_of}
use Rattle.format.specs.Reader.{Entry, is_header, records, entries, header_place, header_at}
use Rattle.format.proofs.Choice.{if-le, if-gt, decided}
use Rattle.reader.specs.Spans.{entry_in, entries_from, listed, Ends, Spans}
use Rattle.reader.specs.declared.section.Span.{Span}
use Rattle.reader.proofs.Seeking.{search_start, search_turn, absent, header_here_lem, header_later}
use Rattle.reader.proofs.Tiling.{tiled_end}
use Rattle.reader.proofs.Whole.{spans, spans_none}
use Rattle.reads.specs.Places.{asked, header_of}
use Rattle.reads.specs.Index.{nowhere, place_or, index_from, index_of, index_in, index, records_of, indexed_as, list_after}
use Rattle.format.specs.declared.question.Question.{Question}
use Rattle.format.specs.declared.question.Question.TheVariants.{Tiling, OtherRoom}
use Rattle.format.specs.Coded.{numbered}
use Rattle.reads.specs.Standing.{Skipped, Headed, Stores, Indexes}
use Rattle.reads.specs.declared.Indexed.{Indexed}
use Rattle.reader.proofs.Searches.{records_header, records_record}

-- ---- the header that starts at a place

no_test : (b c : Bool) → (b && false && c) ≡ false
no_test true c = refl
no_test false c = refl

first_yes : (a b c : Bool) → T (a && b && c) → T a
first_yes true b c t = tt
first_yes false b c t = absurd t

module _ (debug : Bool) (place : ℕ) where
  -- no header stands behind its record
  pub not_behind : (before : ℕ) (es : List Entry) → before ≤ place → header_at debug place before es ≡ none
  unfolding header_at first
  not_behind before [] h = refl
  not_behind before (e ∷ es) h =
      let t : (eqb e.at place && ltb place before && is_header debug e) ≡ false = rw (le-ltb place before h) (no_test (eqb e.at place) (is_header debug e)) in
      header_later debug place before e es t ∙ not_behind before es h

  -- it is the same for each record behind it
  any_record : (b b' : ℕ) (es : List Entry) → place < b → place < b' → header_at debug place b es ≡ header_at debug place b' es
  unfolding header_at
  any_record b b' es h k = simp (lt-ltb place b h, lt-ltb place b' k)

  pub stands_at : (before : ℕ) (es : List Entry) {h : Entry} → header_at debug place before es ≡ some h → h.at ≡ place
  unfolding header_at first
  stands_at before [] q = let z : ◌≡◌ {A = ℕ} 0 1 = cc in absurd (omega arith)
  stands_at before (e ∷ es) {h} q =
      decided (eqb e.at place && ltb place before && is_header debug e)
      (λ t.
      let same : e ≡ h = some_same (sym (header_here_lem debug place before e es t) ∙ q) in
      let u : T (eqb e.at place && ltb place before && is_header debug e) = rw t tt in
      ap (λ (x : Entry). x.at) (sym same) ∙ eqb_yes (first_yes (eqb e.at place) (ltb place before) (is_header debug e) u))
      (λ t. stands_at before es (sym (header_later debug place before e es t) ∙ q))
    where
      some_same : {a b : Entry} → some a ≡ some b → a ≡ b
      some_same e = cc

module _ (debug : Bool) (es : List Entry) where
  pub headed_nowhere : Headed debug es nowhere
  headed_nowhere = record { starts = λ before h k. absurd (omega arith) }

  -- the header that was found
  pub headed_found : {place before : ℕ} {h : Entry} → place < before → header_at debug place before es ≡ some h → Headed debug es h.at
  unfolding place_or
  headed_found {place} {before} {h} l q =
      let e : h.at ≡ place = stands_at debug place before es q in
      rw e (record { starts = λ b k m. rw (any_record debug place b before es k l, q) e })

-- an entry that the search of a test that finds none does not pass
pub not_first : (test : Entry → Bool) (e : Entry) (es : List Entry) → first test (e ∷ es) ≡ none → (test e ≡ false) × (first test es ≡ none)
unfolding first pick
not_first test e es n = by (test e) n
  where
    by : (b : Bool) → pick b (some e) (first test es) ≡ none → (b ≡ false) × (first test es ≡ none)
    by true n = let z : ◌≡◌ {A = ℕ} 0 1 = cc in absurd (omega arith)
    by false n = (refl, n)

-- a header of the entries
module _ (debug : Bool) (es : List Entry) (e : Entry) (y : is_header debug e ≡ true) (member : (test : Entry → Bool) → first test es ≡ none → test e ≡ false) where
  stands_there : (before : ℕ) → e.at < before → (o : Option Entry) → header_at debug e.at before es ≡ o → place_or o ≡ e.at
  unfolding header_at place_or
  stands_there before l none q =
      let n : (eqb e.at e.at && ltb e.at before && is_header debug e) ≡ false = member _ q in
      let t : (eqb e.at e.at && ltb e.at before && is_header debug e) ≡ true = rw (eq-eqb e.at e.at refl, lt-ltb e.at before l, y) refl in
      let z : true ≡ false = sym t ∙ n in
      absurd (subst T z tt)
  stands_there before l (some h) q = stands_at debug e.at before es q

  pub headed_passed : Headed debug es e.at
  headed_passed = record { starts = λ before l m. stands_there before l (header_at debug e.at before es) refl }

-- ---- the header of a record

module _ (s : List ℕ) (rs : List Relocation) (debug : Bool) (es : List Entry) (at end : ℕ) {r : code.Option ℕ}
    (m : r ≡ option_of (header_place debug rs (entry_in s at end))) where
  abbrev start : ℕ
  start = place_or (header_of debug rs es (entry_in s at end))

  pub start_none : r ≡ None → nowhere ≡ start
  unfolding header_of after place_or
  start_none e = rw (none_is _ (sym m ∙ e)) refl

  module _ {place : ℕ} (e : r ≡ Some place) where
    at_place : start ≡ place_or (header_at debug place at es)
    unfolding header_of after
    at_place = rw (value_is _ (sym m ∙ e)) refl

    pub start_behind : at ≤ place → nowhere ≡ start
    unfolding place_or
    start_behind h = sym (at_place ∙ rw (not_behind debug place at es h) refl)

    pub start_last : {last : ℕ} → Headed debug es last → place ≡ last → place < at → at < 2 ^ 64 → place ≡ start
    start_last {last} k q h l = sym (at_place ∙ rw q (k.starts at (omega arith) l))

    module _ {t : code.Option Span} (k : Spans s t (header_at debug place at es)) where
      pub start_missing : t ≡ None → nowhere ≡ start
      unfolding place_or
      start_missing q = sym (at_place ∙ rw (spans_none s (header_at debug place at es) k q) refl)

      module _ {h : Span} (q : t ≡ Some h) where
        pub start_found : h.at ≡ start
        unfolding place_or
        start_found = sym (at_place ∙ rw (spans s (header_at debug place at es) k q).found refl)

        pub found_headed : place < at → Headed debug es h.at
        found_headed l = headed_found debug es l (spans s (header_at debug place at es) k q).found

pub last_is : (o : code.Option ℕ) {p : ℕ} → option_eq eqb o (Some p) ≡ true → o ≡ Some p
last_is None e = let z : ◌≡◌ {A = ℕ} 0 1 = cc in absurd (omega arith)
last_is (Some x) {p} e = ap Some (eqb-true x p e)

-- ---- relocations passed by

module _ (xs : List ℕ) where
  pub none_skipped : (place : ℕ) → Skipped xs place 0
  none_skipped place = record { searching = λ q h. search_start xs q }

  pub skipped_later : {place place' i : ℕ} → place ≤ place' → Skipped xs place i → Skipped xs place' i
  skipped_later l k = record { searching = λ q h. k.searching q (omega arith) }

  pub skipped_one : {place i : ℕ} → Skipped xs place i → i < length xs / 5 → get_or xs (5 * i) 0 < place → Skipped xs place (i + 1)
  skipped_one k h l = record { searching = λ q m. search_turn (k.searching q m) h (λ e. absurd (omega arith)) }

  skipped_by : (n : ℕ) {place i : ℕ} → Skipped xs place i → i + n ≤ length xs / 5 → ((k : ℕ) → i ≤ k → k < i + n → get_or xs (5 * k) 0 < place) → Skipped xs place (i + n)
  skipped_by zero {place} {i} p h f = let e : i + 0 ≡ i = omega arith in subst (Skipped xs place) (sym e) p
  skipped_by (suc n) {place} {i} p h f =
      let e : i + 1 + n ≡ i + suc n = omega arith in
      subst (Skipped xs place) e
      (skipped_by n (skipped_one p (omega arith) (f i (omega arith) (omega arith))) (omega arith) (λ k l m. f k (omega arith) (omega arith)))

  skipped_up : {place i : ℕ} (j : ℕ) → Skipped xs place i → i ≤ j → j ≤ length xs / 5 → ((k : ℕ) → i ≤ k → k < j → get_or xs (5 * k) 0 < place) → Skipped xs place j
  skipped_up {place} {i} j p l h f =
      let e : i + (j - i) ≡ j = omega arith in
      subst (Skipped xs place) e (skipped_by (j - i) p (omega arith) (λ k a b. f k a (omega arith)))

  -- as far as `find` went
  pub skipped_to : {place i : ℕ} → Skipped xs place i → (r : code.Option ℕ)
      → MatchOption r ((k : ℕ) → i ≤ k → k < length xs / 5 → get_or xs (5 * k) 0 < place)
      (λ j. (i ≤ j) × (j < length xs / 5) × (place ≤ get_or xs (5 * j) 0) × ((k : ℕ) → i ≤ k → k < j → get_or xs (5 * k) 0 < place))
      → Skipped xs place (unwrap_or r (length xs / 5))
  skipped_to {place} p None h = skipped_up (length xs / 5) p (omega (arith, (p.searching place (omega arith)).inside)) (omega arith) h
  skipped_to p (Some j) h = skipped_up j p h.0 (omega (arith, h.1)) h.3

-- ---- how many numbers

pub index-length : (debug : Bool) (rs : List Relocation) (es rest : List Entry) → length (index_from debug rs es rest) ≡ 2 * length rest
unfolding index_from
index-length debug rs es [] = refl
index-length debug rs es (e ∷ rest) = omega (arith, index-length debug rs es rest)

-- ---- the numbers stored: those of the entries from `at` on are left, and go from i on

pub record Filling (s : List ℕ) (debug : Bool) (xs old now : List ℕ) (from last i at : ℕ) : Type 0 where
  pub inside : at ≤ length s
  pub long : length now ≡ length old
  pub tiles : T (is_some (entries_from s at))
  pub room : i + length (index_from debug (relocations_of xs) (listed (entries s)) (records debug (listed (entries_from s at)))) ≤ length now
  pub rest : put now i (index_from debug (relocations_of xs) (listed (entries s)) (records debug (listed (entries_from s at)))) ≡ put old 0 (index_of debug (relocations_of xs) (listed (entries s)))
  pub headed : Headed debug (listed (entries s)) last
  pub skipped : Skipped xs at from
  pub absent_on : (test : Entry → Bool) → first test (listed (entries s)) ≡ none → first test (listed (entries_from s at)) ≡ none

module _ (s : List ℕ) (debug : Bool) (xs old : List ℕ) where
  abbrev es : List Entry
  es = listed (entries s)

  abbrev rs : List Relocation
  rs = relocations_of xs

  pub filling : T (is_some (entries s)) → length (index_of debug rs es) ≤ length old → Filling s debug xs old old 0 nowhere 0 0
  unfolding entries entries_from index_of
  filling t l = record { inside = omega arith; long = refl; tiles = t; room = omega (arith, l); rest = refl; headed = headed_nowhere debug es; skipped = none_skipped xs 0; absent_on = λ test n. n }

  module _ {now : List ℕ} {from last i at end : ℕ} (f : Filling s debug xs old now from last i at) (e : Ends s at end) where
    abbrev more : List Entry
    more = listed (entries_from s end)

    absent_here : (test : Entry → Bool) → first test es ≡ none → first test (entry_in s at end ∷ more) ≡ none
    absent_here test n = rw e.rest at (f.absent_on test n)

    absent_behind : (test : Entry → Bool) → first test es ≡ none → first test more ≡ none
    absent_behind test n = (not_first test (entry_in s at end) more (absent_here test n)).1

    -- in front of the record's second field
    pub fill_skipped : Skipped xs (at + 4) from
    fill_skipped = skipped_later xs (omega arith) f.skipped

    pub fill_header : is_header debug (entry_in s at end) ≡ true → Filling s debug xs old now from at i end
    fill_header y =
        let q : records debug (listed (entries_from s at)) ≡ records debug more = rw e.rest (records_header debug (entry_in s at end) more y) in
        record {
          inside = e.inside;
          long = f.long;
          tiles = e.tiled;
          room = rw q at f.room;
          rest = rw q at f.rest;
          headed = headed_passed debug es (entry_in s at end) y (λ test n. (not_first test (entry_in s at end) more (absent_here test n)).0);
          skipped = skipped_later xs (omega (arith, e.long)) f.skipped;
          absent_on = absent_behind;
        }

    module _ (y : is_header debug (entry_in s at end) ≡ false) where
      one : records debug (listed (entries_from s at)) ≡ entry_in s at end ∷ records debug more
      one = rw e.rest (records_record debug (entry_in s at end) more y)

      pub fill_room : i + 2 ≤ length now
      unfolding index_from
      fill_room = omega (arith, rw one at f.room)

      pub fill_record : {from' h : ℕ} → Skipped xs (at + 4) from' → h ≡ place_or (header_of debug rs es (entry_in s at end)) → Headed debug es h
          → Filling s debug xs old (set (set now i at) (i + 1) h) from' h (i + 2) end
      unfolding index_from put
      fill_record {h = h} p g k =
          let l : length (set (set now i at) (i + 1) h) ≡ length now = simp length-set in
          let a : i + 1 + 1 ≡ i + 2 = omega arith in
          record {
            inside = e.inside;
            long = l ∙ f.long;
            tiles = e.tiled;
            room = omega (arith, l, rw one at f.room);
            rest = rw (g, ← a) (rw one at f.rest);
            headed = k;
            skipped = skipped_later xs (omega (arith, e.long)) p;
            absent_on = absent_behind;
          }

  pub filled : {now : List ℕ} {from last i at : ℕ} → Filling s debug xs old now from last i at → length s ≤ at → now ≡ put old 0 (index_of debug rs es)
  unfolding listed records index_from put
  filled {at = at} f h = rw (tiled_end s at h) at f.rest

-- ---- 11

module _ (section relocations : List ℕ) (kind word : ℕ) (old : List ℕ) where
  pub index_unasked : asked kind word ≡ false → {r : Indexed} → r ≡ indexed_as (Err 11) → Indexes (index section relocations kind word (length old)) r old old
  unfolding index pick records_of list_after
  index_unasked e x = rw e (record { answered = x; stored = refl })

  pub index_asked : asked kind word ≡ true → {n : code.Result ℕ Question} {r : Indexed} {new : List ℕ} → r ≡ indexed_as (numbered n)
      → Stores (index_in (eqb kind 1) (relocations_of relocations) (length old) section) n old new
      → Indexes (index section relocations kind word (length old)) r old new
  unfolding index pick
  index_asked e x y = rw e (record { answered = x ∙ ap indexed_as y.answered; stored = y.stored })

-- ---- the whole

module _ (s : List ℕ) (rs : List Relocation) (debug : Bool) (old : List ℕ) where
  abbrev whole : Result (List ℕ)
  whole = index_in debug rs (length old) s

  pub index_untiled : is_some (entries s) ≡ false → Stores whole (Err Tiling) old old
  unfolding index_in onward or_else records_of list_after
  index_untiled e = let q : whole ≡ bad 61 = rw (absent (entries s) e) refl in record { answered = rw q refl; stored = rw q refl }

  room_asked : List Entry → Result (List ℕ)
  room_asked es = pick (leb (length (index_of debug rs es)) (length old)) (good (index_of debug rs es)) (bad 54)

  room_first : (o : Option (List Entry)) → is_some o ≡ true → onward (or_else o 61) room_asked ≡ room_asked (listed o)
  unfolding is_some onward or_else listed
  room_first none e = let z : ◌≡◌ {A = ℕ} 0 1 = cc in absurd (omega arith)
  room_first (some es) e = refl

  module _ (t : is_some (entries s) ≡ true) {n : ℕ} (c : n ≡ length (records debug (listed (entries s)))) where
    pub twice : length (index_of debug rs (listed (entries s))) ≡ 2 * n
    unfolding index_of
    twice = rw c (index-length debug rs (listed (entries s)) (records debug (listed (entries s))))

    opened : whole ≡ pick (leb (length (index_of debug rs (listed (entries s)))) (length old)) (good (index_of debug rs (listed (entries s)))) (bad 54)
    unfolding index_in room_asked
    opened = room_first (entries s) t

    pub index_short : length old / 2 < n → Stores whole (Err OtherRoom) old old
    unfolding index_in onward or_else records_of list_after
    index_short h =
        let q : whole ≡ bad 54 =
        opened ∙ if-gt (length (index_of debug rs (listed (entries s)))) (length old) (good (index_of debug rs (listed (entries s)))) (bad 54) (omega (arith, twice)) in
        record { answered = rw q refl; stored = rw q refl }

    pub index_there : {new : List ℕ} → n ≤ length old / 2 → new ≡ put old 0 (index_of debug rs (listed (entries s)))
        → Stores whole (Ok n) old new
    unfolding index_in onward or_else records_of list_after
    index_there h e =
        let q : whole ≡ good (index_of debug rs (listed (entries s))) =
        opened ∙ if-le (length (index_of debug rs (listed (entries s)))) (length old) (good (index_of debug rs (listed (entries s)))) (bad 54) (omega (arith, twice)) in
        let d : n ≡ length (index_of debug rs (listed (entries s))) / 2 = omega (arith, twice) in
        record { answered = rw (q, ← d) refl; stored = rw q e }
