-- Reading by an index is reading by the record's number.
use mathlib.Core.Path.{◌≡◌, refl, sym, ap, subst, ◌∙◌}
use Prim.Native.Nat.{ℕ, ◌+◌, ◌*◌, ◌/◌, ◌^◌, ◌<◌, ◌≤◌}
use native.Mathlib.Omega.{arith}
use mathlib.Core.Bool.{Bool, true, false}
use mathlib.Core.Option.{Option, none, some}
use mathlib.Core.List.{List}
use lib.Dec.{T, leb, eqb, leb→le}
use lib.ListN.{length, take, get_or}
use lib.Seq.{get_or-take}
use Rattle.std.specs.Prelude.{Err}
use Rattle.format.specs.Prelude.{pick, Result, good, bad, onward, or_else}
use Rattle.format.specs.Put.{put}
use Rattle.format.specs.Coded.{result_of}
use Rattle.format.specs.Lists.{relocations_of}
use Rattle.format.specs.Answers.{mark_of, marked_numbers}
use Rattle.format.specs.Reader.{Entry, entries, records, read, shortest_at}
use Rattle.format.proofs.PutLaws.{length-put, front_is}
use Rattle.reader.specs.Finds.{shortest_from}
use Rattle.reads.specs.Places.{asked, refused, reader_places, locate_record, rules_of}
use Rattle.reads.specs.Index.{index_of, index_in, index, records_of, indexed_as, list_after, locate_at}
use Rattle.reads.specs.Standing.{Indexes}
use Rattle.reads.specs.declared.Indexed.{Indexed}
use Rattle.reads.specs.declared.Located.{Located}
use Rattle.reads.proofs.Indexing.{index-length}
use Rattle.reads.proofs.ByIndex.{by_index, behind_index}
use Rattle.reads.proofs.FromPlaces.{rules_located, mark_located}
use Rattle.unwind.proofs.Marks.{both_marked}
use Rattle.round_trips.specs.Indexed.{where_indexed}
use Rattle.round_trips.proofs.Refusals.{NotZero, index_not_zero}

-- ---- what an index is

abbrev IfGood : (List ℕ → Type 0) → Result (List ℕ) → Type 0
IfGood P (good ns) = P ns
IfGood P (bad n) = Unit {0}

if_picked : (P : List ℕ → Type 0) (b : Bool) (x : Result (List ℕ)) (n : ℕ) → (T b → IfGood P x) → IfGood P (pick b x (bad n))
unfolding pick
if_picked P true x n h = h tt
if_picked P false x n h = tt

if_some : (P : List ℕ → Type 0) (o : Option (List Entry)) (n : ℕ) (f : List Entry → Result (List ℕ)) → ((es : List Entry) → IfGood P (f es))
    → IfGood P (onward (or_else o n) f)
unfolding onward or_else
if_some P none n f h = tt
if_some P (some es) n f h = h es

-- two numbers a record, for which there is room
record Fits (room : ℕ) (ns : List ℕ) : Type 0 where
  room_is : length ns ≤ room
  records : ℕ
  numbers : length ns ≡ 2 * records

module _ (section relocations : List ℕ) (kind word room : ℕ) where
  index_fits : IfGood (Fits room) (index section relocations kind word room)
  unfolding index index_in index_of
  index_fits =
      if_picked (Fits room) (asked kind word) _ 11 λ a.
      if_some (Fits room) (entries section) 61 _ λ es.
      if_picked (Fits room) (leb (length (index_of (eqb kind 1) (relocations_of relocations) es)) room) _ 54 λ t.
      record {
        room_is = leb→le (length (index_of (eqb kind 1) (relocations_of relocations) es)) room t;
        records = length (records (eqb kind 1) es);
        numbers = index-length (eqb kind 1) (relocations_of relocations) es (records (eqb kind 1) es);
      }

  fits : {ns : List ℕ} → index section relocations kind word room ≡ good ns → Fits room ns
  fits e = subst (IfGood (Fits room)) e index_fits

-- ---- what was answered of it

-- not indexed: the question is answered
pub unindexed : (a : Result (List ℕ)) (r : Indexed) (reading : List ℕ) → r ≡ indexed_as (result_of (records_of a)) → (r.number ≡ 0 → ⊥)
    → marked_numbers (Err r.number) false ≡ where_indexed a reading
unfolding records_of indexed_as where_indexed
unindexed (good ns) r reading e h = let z : r.number ≡ 0 = ap (λ (x : Indexed). x.number) e in absurd (h z)
unindexed (bad n) r reading e h = let z : r.number ≡ n = ap (λ (x : Indexed). x.number) e in rw z refl

-- indexed: the numbers, and how many records they are of
pub record Numbers (a : Result (List ℕ)) (r : Indexed) : Type 0 where
  pub numbers : List ℕ
  pub is : a ≡ good numbers
  pub count : r.records ≡ length numbers / 2

pub indexed : (a : Result (List ℕ)) (r : Indexed) → NotZero a → r ≡ indexed_as (result_of (records_of a)) → r.number ≡ 0 → Numbers a r
unfolding records_of indexed_as
indexed (good ns) r z e h = record { numbers = ns; is = refl; count = ap (λ (x : Indexed). x.records) e }
indexed (bad n) r z e h = absurd (z (sym (ap (λ (x : Indexed). x.number) e) ∙ h))

module _ (section relocations : List ℕ) (kind word : ℕ) (old new : List ℕ) (r : Indexed)
    (x : Indexes (index section relocations kind word (length old)) r old new) (zero : r.number ≡ 0) where
  abbrev a : Result (List ℕ)
  a = index section relocations kind word (length old)

  by_numbers : Numbers a r
  by_numbers = indexed a r (index_not_zero section relocations kind word (length old)) x.answered zero

  by_fits : Fits (length old) by_numbers.numbers
  by_fits = fits section relocations kind word (length old) by_numbers.is

  module _ (k : ℕ) where
    there : k < r.records → 2 * k + 1 < length by_numbers.numbers
    there h = omega (arith, h, by_numbers.count, by_fits.numbers)

    stored_is : new ≡ put old 0 by_numbers.numbers
    unfolding list_after
    stored_is = x.stored ∙ ap (λ (y : Result (List ℕ)). list_after y old) by_numbers.is

    -- the record's two numbers lie in the lent list
    pub inside : k < r.records → 2 * k + 1 < length new
    inside h = omega (arith, there h, by_fits.room_is, ap length stored_is ∙ length-put old 0 by_numbers.numbers)

    number_at : (i : ℕ) → i < length by_numbers.numbers → get_or new i 0 ≡ get_or by_numbers.numbers i 0
    number_at i h =
        let front : take (length by_numbers.numbers) new ≡ by_numbers.numbers
        = ap (take (length by_numbers.numbers)) stored_is ∙ front_is old by_numbers.numbers by_fits.room_is in
        sym (get_or-take (length by_numbers.numbers) new i 0 h) ∙ ap (λ (ns : List ℕ). get_or ns i 0) front

    module _ (small : length section < 2 ^ 64) (q p : ℕ) where
      abbrev reading : List ℕ
      reading = marked_numbers (read section relocations kind word k q p) (shortest_at section relocations kind word k p)

      of_index : reading ≡ where_indexed a reading
      unfolding where_indexed
      of_index = rw by_numbers.is refl

      -- behind the index there is no record
      pub behind : r.records ≤ k → marked_numbers (Err 62) false ≡ where_indexed a reading
      unfolding rules_of refused pick marked_numbers mark_of
      behind h =
          let e = behind_index section relocations kind word (length old) small by_numbers.is k (omega (arith, h, by_numbers.count, by_fits.numbers)) in
          let d : Err 62 ≡ read section relocations kind word k q p = rw e at (rules_located section relocations kind word k q p) in
          (rw (sym d) refl) ∙ of_index

      -- what is located by the two numbers, and read from there
      pub located : k < r.records → (l : Located) → l ≡ locate_at section kind word (get_or new (2 * k) 0) (get_or new (2 * k + 1) 0)
          → marked_numbers (rules_of section l q p) (shortest_from section (reader_places l) p) ≡ where_indexed a reading
      located h l e =
          let n = there h in
          let same : l ≡ locate_record section relocations kind word k
          = e ∙ rw (number_at (2 * k) (omega (arith, n)), number_at (2 * k + 1) n) (by_index section relocations kind word (length old) small by_numbers.is k (omega (arith, n))) in
          rw same (both_marked (rules_located section relocations kind word k q p) (mark_located section relocations kind word k q p)) ∙ of_index
