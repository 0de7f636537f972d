-- Laws of the index: locating by its numbers is locating by the record's number, and behind it there is no record.
use Rattle.std.proofs.Common.{◌≡◌, ℕ, zero, suc, ◌+◌, ◌*◌, ◌^◌, ◌<◌, ◌≤◌, Bool, true, false, eqb, leb, List, [], ◌∷◌, length, get_or, refl, ap, ◌∙◌, subst, arith, le-ltb, lt-ltb}
use mathlib.Core.Option.{Option, none, some}
use lib.ListN.{get_elem?}
use Rattle.format.specs.Prelude.{pick, after, Result, good, bad, onward, or_else}
use Rattle.format.specs.Lists.{Relocation, relocations_of}
use Rattle.format.specs.Reader.{Entry, entries, records, header_place, header_at, read}
use Rattle.format.proofs.Choice.{either}
use Rattle.format.specs.Coded.{result_of}
use Rattle.reads.specs.Places.{asked, refused, located_as, locate_entries, header_of, locate_nth, locate_record, rules_of}
use Rattle.reads.specs.Index.{nowhere, place_or, index_from, index_of, index_in, index, locate_in, locate_at}
use Rattle.reads.specs.declared.Located.{Located}
use Rattle.reads.proofs.Indexing.{not_behind, stands_at, index-length}
use Rattle.reads.proofs.FromPlaces.{rules_located}
use Rattle.reads.proofs.Standing.{Standing, entries_stand, records_stand, nth_stands, first_stands, stands_entry, stands_inside}

-- ---- the two numbers of a record

module _ (debug : Bool) (rs : List Relocation) (es : List Entry) where
  -- the numbers at 2k and 2k + 1
  pub record Numbers (ns : List ℕ) (k : ℕ) (e : Entry) : Type 0 where
    pub place : get_or ns (2 * k) 0 ≡ e.at
    pub header : get_or ns (2 * k + 1) 0 ≡ place_or (header_of debug rs es e)

  two_behind : (a b : ℕ) (ns : List ℕ) (k : ℕ) {e : Entry} → Numbers ns k e → Numbers (a ∷ b ∷ ns) (suc k) e
  two_behind a b ns k n =
      let x : 2 * suc k ≡ suc (suc (2 * k)) = omega arith in
      let y : 2 * suc k + 1 ≡ suc (suc (2 * k + 1)) = omega arith in
      record { place = rw x n.place; header = rw y n.header }

  numbers_at : (rest : List Entry) (k : ℕ) {e : Entry} → get_elem? rest k ≡ some e → Numbers (index_from debug rs es rest) k e
  unfolding index_from
  numbers_at [] k q = let z : ◌≡◌ {A = ℕ} 0 1 = cc in absurd (omega arith)
  numbers_at (x ∷ rest) zero {e} q = let same : x ≡ e = cc in rw same (record { place = refl; header = refl })
  numbers_at (x ∷ rest) (suc k) q = two_behind x.at (place_or (header_of debug rs es x)) (index_from debug rs es rest) k (numbers_at rest k q)

-- ---- a record and its header by their places

module _ (s : List ℕ) (debug : Bool) (rs : List Relocation) (word : ℕ) (small : length s < 2 ^ 64) {es : List Entry} (t : entries s ≡ some es) where
  -- what 63 finds stands in front of the record
  pub record Found (e h : Entry) : Type 0 where
    pub ahead : h.at < e.at
    pub stands : Standing s h

  found_at : (e h : Entry) (place : ℕ) → header_at debug place e.at es ≡ some h → Found e h
  unfolding header_at
  found_at e h place q =
      let same : h.at ≡ place = stands_at debug place e.at es q in
      record { ahead = either e.at place (λ l. no l) (λ l. omega arith); stands = first_stands s _ es (entries_stand s t) q }
    where
      no : e.at ≤ place → h.at < e.at
      no l =
          let n : header_at debug place e.at es ≡ none = not_behind debug place e.at es l in
          let z : ◌≡◌ {A = ℕ} 0 1 = cc in
          absurd (omega arith)

  found_header : (e h : Entry) (o : Option ℕ) → after o (λ place. header_at debug place e.at es) ≡ some h → Found e h
  unfolding after
  found_header e h none q = let z : ◌≡◌ {A = ℕ} 0 1 = cc in absurd (omega arith)
  found_header e h (some place) q = found_at e h place q

  by_places : (e : Entry) → Standing s e → (o : Option Entry) → header_of debug rs es e ≡ o
      → locate_in debug word s e.at (place_or o) ≡ onward (or_else o 63) λ h. locate_entries debug word h e
  unfolding header_of place_or locate_in pick onward or_else
  by_places e k none q = rw (le-ltb nowhere e.at (omega (arith, stands_inside s k))) refl
  by_places e k (some h) q =
      let f = found_header e h (header_place debug rs e) q in
      rw (lt-ltb h.at e.at f.ahead, stands_entry s f.stands, stands_entry s k) refl

  nth_by_index : (k : ℕ) {e : Entry} → get_elem? (records debug es) k ≡ some e
      → locate_in debug word s (get_or (index_of debug rs es) (2 * k) 0) (get_or (index_of debug rs es) (2 * k + 1) 0) ≡ locate_nth debug rs word k s
  unfolding index_of locate_nth onward or_else
  nth_by_index k {e} q =
      let n = numbers_at debug rs es (records debug es) k q in
      let a = nth_stands s (records debug es) k (records_stand s debug es (entries_stand s t)) q in
      rw (n.place, n.header, t, q) (by_places e a (header_of debug rs es e) refl)

  nth_behind_index : (k : ℕ) → get_elem? (records debug es) k ≡ none → locate_nth debug rs word k s ≡ bad 62
  unfolding locate_nth onward or_else
  nth_behind_index k q = rw (t, q) refl

-- ---- all records by their numbers

nth_there : (xs : List Entry) (k : ℕ) → k < length xs → (e : Option Entry) → get_elem? xs k ≡ e → (e ≡ none → ⊥)
nth_there [] k h e q n = absurd (omega arith)
nth_there (x ∷ xs) zero h e q n = let z : ◌≡◌ {A = ℕ} 0 1 = cc in absurd (omega arith)
nth_there (x ∷ xs) (suc k) h e q n = nth_there xs k (omega arith) e q n

nth_none : (xs : List Entry) (k : ℕ) → length xs ≤ k → get_elem? xs k ≡ none
nth_none [] k h = refl
nth_none (x ∷ xs) zero h = absurd (omega arith)
nth_none (x ∷ xs) (suc k) h = nth_none xs k (omega arith)

module _ (section relocations : List ℕ) (kind word : ℕ) (small : length section < 2 ^ 64) {es : List Entry} (t : entries section ≡ some es) where
  abbrev numbers : List ℕ
  numbers = index_of (eqb kind 1) (relocations_of relocations) es

  length_numbers : length numbers ≡ 2 * length (records (eqb kind 1) es)
  unfolding index_of
  length_numbers = index-length (eqb kind 1) (relocations_of relocations) es (records (eqb kind 1) es)

  by_some : (k : ℕ) (o : Option Entry) → get_elem? (records (eqb kind 1) es) k ≡ o → (o ≡ none → ⊥)
      → locate_at section kind word (get_or numbers (2 * k) 0) (get_or numbers (2 * k + 1) 0) ≡ locate_record section relocations kind word k
  unfolding locate_at locate_record
  by_some k none q n = absurd (n refl)
  by_some k (some e) q n =
      ap (λ (x : Result Located). located_as (result_of (pick (asked kind word) x (bad 11)))) (nth_by_index section (eqb kind 1) (relocations_of relocations) word small t k q)

  locate_by_numbers : (k : ℕ) → 2 * k < length numbers
      → locate_at section kind word (get_or numbers (2 * k) 0) (get_or numbers (2 * k + 1) 0) ≡ locate_record section relocations kind word k
  locate_by_numbers k h =
      by_some k (get_elem? (records (eqb kind 1) es) k) refl
      (nth_there (records (eqb kind 1) es) k (omega (arith, length_numbers)) (get_elem? (records (eqb kind 1) es) k) refl)

  locate_behind_numbers : asked kind word ≡ true → (k : ℕ) → length numbers ≤ 2 * k → locate_record section relocations kind word k ≡ refused 62
  unfolding locate_record pick located_as
  locate_behind_numbers a k h =
      rw (a, nth_behind_index section (eqb kind 1) (relocations_of relocations) word small t k (nth_none (records (eqb kind 1) es) k (omega (arith, length_numbers)))) refl

-- ---- the laws of what unwind_index answers

-- an index that was answered
record Answered (section relocations : List ℕ) (kind word : ℕ) (ns : List ℕ) : Type 0 where
  es : List Entry
  tiled : entries section ≡ some es
  same : index_of (eqb kind 1) (relocations_of relocations) es ≡ ns
  fit : asked kind word ≡ true

module _ (section relocations : List ℕ) (kind word room : ℕ) {ns : List ℕ} where
  fitted : (t : Bool) (x : List ℕ) → pick t (good x) (bad 54) ≡ good ns → x ≡ ns
  unfolding pick
  fitted true x e = cc
  fitted false x e = let z : ◌≡◌ {A = ℕ} 0 1 = cc in absurd (omega arith)

  of_entries : asked kind word ≡ true → (o : Option (List Entry)) → entries section ≡ o
      → onward (or_else o 61) (λ es. pick (leb (length (index_of (eqb kind 1) (relocations_of relocations) es)) room) (good (index_of (eqb kind 1) (relocations_of relocations) es)) (bad 54)) ≡ good ns
      → Answered section relocations kind word ns
  unfolding onward or_else
  of_entries a none t e = let z : ◌≡◌ {A = ℕ} 0 1 = cc in absurd (omega arith)
  of_entries a (some es) t e =
      record { es = es; tiled = t; same = fitted (leb (length (index_of (eqb kind 1) (relocations_of relocations) es)) room) _ e; fit = a }

  of_asked : (b : Bool) → asked kind word ≡ b → pick b (index_in (eqb kind 1) (relocations_of relocations) room section) (bad 11) ≡ good ns
      → Answered section relocations kind word ns
  unfolding pick index_in
  of_asked true a e = of_entries a (entries section) refl e
  of_asked false a e = let z : ◌≡◌ {A = ℕ} 0 1 = cc in absurd (omega arith)

  module _ (small : length section < 2 ^ 64) (i : index section relocations kind word room ≡ good ns) where
    answered : Answered section relocations kind word ns
    unfolding index
    answered = of_asked (asked kind word) refl i

    -- locating by the k-th two numbers of the index is locating by k
    pub by_index : (k : ℕ) → 2 * k < length ns
        → locate_at section kind word (get_or ns (2 * k) 0) (get_or ns (2 * k + 1) 0) ≡ locate_record section relocations kind word k
    by_index k h =
        subst (λ (xs : List ℕ). 2 * k < length xs → locate_at section kind word (get_or xs (2 * k) 0) (get_or xs (2 * k + 1) 0) ≡ locate_record section relocations kind word k)
        answered.same
        (locate_by_numbers section relocations kind word small answered.tiled k)
        h

    -- behind the index there is no record
    pub behind_index : (k : ℕ) → length ns ≤ 2 * k → locate_record section relocations kind word k ≡ refused 62
    behind_index k h =
        subst (λ (xs : List ℕ). length xs ≤ 2 * k → locate_record section relocations kind word k ≡ refused 62) answered.same
        (locate_behind_numbers section relocations kind word small answered.tiled answered.fit k)
        h

    -- so reading by the index is reading by k
    pub read_by_index : (k q p : ℕ) → 2 * k < length ns
        → rules_of section (locate_at section kind word (get_or ns (2 * k) 0) (get_or ns (2 * k + 1) 0)) q p ≡ read section relocations kind word k q p
    read_by_index k q p h = ap (λ (l : Located). rules_of section l q p) (by_index k h) ∙ rules_located section relocations kind word k q p
