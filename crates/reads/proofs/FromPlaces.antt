-- The operations of an entry are its last bytes, so the rules from what was located are what is read.
use Rattle.std.proofs.Common.{◌≡◌, ℕ, ◌+◌, ◌-◌, ◌≤◌, Bool, true, false, ◌&&◌, T, eqb, leb, List, length, drop, sym, refl, ap, ◌∙◌, subst, arith, length-drop, length-take-le, drop-drop, eq-eqb, ne_eqb, le-leb}
use mathlib.Core.Option.{Option, none, some}
use lib.ListN.{get_elem?}
use Rattle.format.specs.Prelude.{pick, Read, next, after, Result, good, bad, onward, or_else}
use Rattle.format.specs.Rows.{same_offset}
use Rattle.format.specs.Headers.{data_factor}
use Rattle.format.specs.Machine.{is_word_size}
use Rattle.format.specs.Answers.{bit}
use Rattle.format.specs.Lists.{Relocation, relocations_of}
use Rattle.format.specs.Reader.{Entry, entries, records, header_place, header_at, Letters, spellings, letters_in, HeaderFields, header_tail, require, parse_header, RecordFields, record_tail, parse_record, header_short, record_short, Found, parsed, locate, read, shortest_at}
use Rattle.operations.proofs.PositionLaws.{takes_little, takes_uleb, takes_sleb}
use Rattle.reader.specs.Spans.{part, entry_in}
use Rattle.reader.specs.Finds.{found, Stated}
use Rattle.reader.specs.Finds as reader
use Rattle.reader.proofs.Tiling.{Entered}
use Rattle.reader.proofs.Suffixes.{Leaves, unread, leaves, of_takes, leaves_register, leaves_byte, leaves_counted, leaves_letters}
use Rattle.reader.proofs.Whole.{drop-part}
use Rattle.reader.proofs.Asked.{located_read, located_shortest, refused_read, refused_mark}
use Rattle.reads.specs.Places.{asked, end_of, operations_at, places_of, refused, located_as, locate_entries, header_of, locate_nth, locate_record, reader_places, rules_of}
use Rattle.reads.specs.declared.Located.{Located}
use Rattle.format.specs.Coded.{result_of}
use Rattle.reads.proofs.Placing.{asked_word, end_in, operations_in}
use Rattle.reads.proofs.Standing.{Standing, entries_stand, records_stand, nth_stands, first_stands}

-- ---- what a reader leaves: the last bytes

-- a value whose operations are the last bytes
data Ends {A : Type 0} (operations : A → List ℕ) (bs : List ℕ) : Option A → Type 0 where
  missing : Ends operations bs none
  ending : (n : ℕ) (v : A) → n ≤ length bs → operations v ≡ drop n bs → Ends operations bs (some v)

module _ {A : Type 0} (operations : A → List ℕ) where
  ends_on : (n : ℕ) (bs : List ℕ) {r : Option A} → n ≤ length bs → Ends operations (drop n bs) r → Ends operations bs r
  ends_on n bs m missing = missing
  ends_on n bs m (ending j w l e) = ending (n + j) w (omega (arith, length-drop n bs)) (e ∙ drop-drop j n bs)

  ends_next : {B : Type 0} {bs : List ℕ} {r : Read B} {k : B → List ℕ → Option A}
      → Leaves bs r → ((b : B) (rest : List ℕ) → Ends operations rest (k b rest)) → Ends operations bs (next r k)
  unfolding next
  ends_next unread u = missing
  ends_next {bs = bs} (leaves n v m) u = ends_on n bs m (u v (drop n bs))

  ends_require : {bs : List ℕ} (t : Bool) {a : Option A} → Ends operations bs a → Ends operations bs (require t a)
  unfolding require pick
  ends_require true x = x
  ends_require false x = missing

-- ---- a header and a record end in their operations

abbrev of_header : HeaderFields → List ℕ
of_header h = h.operations

abbrev of_record : RecordFields → List ℕ
of_record r = r.operations

ends_here : {A : Type 0} (operations : A → List ℕ) (v : A) (bs : List ℕ) → operations v ≡ bs → Ends operations bs (some v)
ends_here operations v bs e = ending 0 v (omega arith) e

ends_lettered : (l : Letters) (ops : List ℕ) (o : Option ℕ) → Ends of_header ops (after o λ n. some (record { pointer = n; signal = l.signal; operations = ops }))
unfolding after
ends_lettered l ops none = missing
ends_lettered l ops (some n) = ends_here of_header _ ops refl

header_tail_lem : (debug : Bool) (l : Letters) (word : ℕ) (bs : List ℕ) → Ends of_header bs (header_tail debug l word bs)
unfolding header_tail
header_tail_lem true l word bs = ends_here of_header _ bs refl
header_tail_lem false l word bs = ends_next of_header (leaves_counted bs) (λ aug ops. ends_lettered l ops (letters_in l word aug))

header_ends : (debug : Bool) (word : ℕ) (bs : List ℕ) → Ends of_header bs (parse_header debug word bs)
unfolding parse_header
header_ends debug word bs =
    ends_next of_header (of_takes (takes_little 4 bs)) λ id r₀. ends_next of_header (leaves_byte r₀) λ version r₁. ends_require of_header (eqb version 1)
    (ends_next of_header (leaves_letters (spellings debug) r₁) λ l r₂. ends_next of_header (of_takes (takes_uleb r₂)) λ code r₃. ends_require of_header (eqb code 1)
    (ends_next of_header (of_takes (takes_sleb r₃)) λ z r₄. ends_require of_header (same_offset z (data_factor word))
    (ends_next of_header (leaves_register r₄) λ ra r₅. header_tail_lem debug l word r₅)))

record_tail_lem : (debug : Bool) (pointer size : ℕ) (bs : List ℕ) → Ends of_record bs (record_tail debug pointer size bs)
unfolding record_tail
record_tail_lem true pointer size bs = ends_here of_record _ bs refl
record_tail_lem false pointer size bs =
    ends_next of_record (leaves_counted bs) λ aug ops. ends_require of_record (leb pointer (length aug)) (ends_here of_record _ ops refl)

record_ends : (debug : Bool) (word pointer : ℕ) (bs : List ℕ) → Ends of_record bs (parse_record debug word pointer bs)
unfolding parse_record
record_ends debug word pointer bs =
    ends_next of_record (of_takes (takes_little 4 bs)) λ id r₀. ends_next of_record (of_takes (takes_little (pick debug word 4) r₀)) λ place r₁.
    ends_next of_record (of_takes (takes_little (pick debug word 4) r₁)) λ size r₂. record_tail_lem debug pointer size r₂

-- ---- where these operations are

record Tail (s : List ℕ) (e : Entry) (operations : List ℕ) : Type 0 where
  same : operations ≡ part s (operations_at e operations) (end_of e)
  ordered : operations_at e operations ≤ end_of e
  inside : end_of e ≤ length s

module _ (s : List ℕ) where
  tail_in : (at end : ℕ) → Entered s at end → (n : ℕ) (operations : List ℕ) → n ≤ length (part s (at + 4) end) → operations ≡ drop n (part s (at + 4) end)
      → Tail s (entry_in s at end) operations
  tail_in at end a n operations l e =
      let b : at + 8 ≤ end = a.long in
      let i : end ≤ length s = a.inside in
      let m : length (part s (at + 4) end) ≡ end - (at + 4) = length-take-le (end - (at + 4)) (drop (at + 4) s) (omega (arith, length-drop (at + 4) s)) in
      let d : operations ≡ part s (at + 4 + n) end = e ∙ drop-part s (at + 4) end n in
      let o : operations_at (entry_in s at end) (part s (at + 4 + n) end) ≡ at + 4 + n = operations_in s at end (at + 4 + n) b i (omega arith) in
      rw d (record { same = rw (o, end_in s at end b i) refl; ordered = rw (o, end_in s at end b i) (omega arith); inside = rw (end_in s at end b i) i })

  tail_of : {e : Entry} → Standing s e → (n : ℕ) (operations : List ℕ) → n ≤ length e.body → operations ≡ drop n e.body → Tail s e operations
  tail_of {e} k n operations l d =
      let body : e.body ≡ part s (e.at + 4) k.end = ap (λ (x : Entry). x.body) k.same in
      let t : Tail s (entry_in s e.at k.end) operations = tail_in e.at k.end k.there n operations (rw body at l) (rw body at d) in
      subst (λ (x : Entry). Tail s x operations) (sym k.same) t

-- ---- what is located, and what the reader locates

data Agree (s : List ℕ) (word : ℕ) : Result Located → Result Found → Type 0 where
  refuses : (n : ℕ) → (n ≡ 0 → ⊥) → Agree s word (bad n) (bad n)
  answers : (l : Located) (x : Found) → l.number ≡ 0 → Stated s word (reader_places l) (good x) → Agree s word (good l) (good x)

bit_back : (b : Bool) → eqb (bit b) 1 ≡ b
unfolding bit
bit_back true = refl
bit_back false = refl

module _ (s : List ℕ) (word : ℕ) where
  agree_or : {A : Type 0} (o : Option A) (n : ℕ) → (n ≡ 0 → ⊥) → {f : A → Result Located} {g : A → Result Found} → ((a : A) → o ≡ some a → Agree s word (f a) (g a))
      → Agree s word (onward (or_else o n) f) (onward (or_else o n) g)
  unfolding onward or_else
  agree_or none n z u = refuses n z
  agree_or (some a) n z u = u a refl

  module _ (w : T (is_word_size word)) (shortest : Bool) {h e : Entry} (hs : Standing s h) (es : Standing s e) where
    abbrev found_of : HeaderFields → RecordFields → Found
    found_of hf rf = record { header = hf; found = rf; shortest = shortest }

    stated : (hf : HeaderFields) (rf : RecordFields) → Tail s h hf.operations → Tail s e rf.operations
        → Stated s word (reader_places (places_of word h e (found_of hf rf))) (good (found_of hf rf))
    unfolding reader_places places_of
    stated hf rf a b =
        record {
          answer = rw (bit_back hf.signal, bit_back shortest, ← a.same, ← b.same) refl;
          header_ordered = a.ordered;
          header_inside = a.inside;
          record_ordered = b.ordered;
          record_inside = b.inside;
          same_word = refl;
          is_word = w;
        }

    two_fields : (hf : HeaderFields) → Tail s h hf.operations → (o : Option RecordFields) → Ends of_record e.body o
        → Agree s word (onward (onward (or_else o 64) λ rf. good (found_of hf rf)) λ x. good (places_of word h e x)) (onward (or_else o 64) λ rf. good (found_of hf rf))
    unfolding onward or_else places_of
    two_fields hf a none missing = refuses 64 (λ z. omega arith)
    two_fields hf a (some rf) (ending n v l d) = answers _ _ refl (stated hf rf a (tail_of s es n rf.operations l d))

    both_fields : (o : Option HeaderFields) → Ends of_header h.body o → (p : HeaderFields → Option RecordFields) → ((hf : HeaderFields) → Ends of_record e.body (p hf))
        → Agree s word (onward (onward (or_else o 64) λ hf. onward (or_else (p hf) 64) λ rf. good (found_of hf rf)) λ x. good (places_of word h e x))
        (onward (or_else o 64) λ hf. onward (or_else (p hf) 64) λ rf. good (found_of hf rf))
    unfolding onward or_else
    both_fields none missing p u = refuses 64 (λ z. omega arith)
    both_fields (some hf) (ending n v l d) p u = two_fields hf (tail_of s hs n hf.operations l d) (p hf) (u hf)

  agree_fields : T (is_word_size word) → {h e : Entry} → Standing s h → Standing s e → (debug : Bool) → Agree s word (locate_entries debug word h e) (parsed debug word h e)
  unfolding locate_entries parsed
  agree_fields w {h} {e} hs es debug =
      both_fields w (header_short debug h.body && record_short debug e.body) hs es (parse_header debug word h.body) (header_ends debug word h.body)
      (λ hf. parse_record debug word hf.pointer e.body) (λ hf. record_ends debug word hf.pointer e.body)

  header_stands : {all : List Entry} (e : Entry) {h : Entry} (debug : Bool) (o : Option ℕ) → entries s ≡ some all → after o (λ place. header_at debug place e.at all) ≡ some h → Standing s h
  unfolding after header_at
  header_stands e debug none t q = let z : ◌≡◌ {A = ℕ} 0 1 = cc in absurd (omega arith)
  header_stands {all} e debug (some place) t q = first_stands s _ all (entries_stand s t) q

  agree_nth : (debug : Bool) (rs : List Relocation) (k : ℕ) → T (is_word_size word) → Agree s word (locate_nth debug rs word k s) (locate debug rs word k s)
  unfolding locate_nth locate header_of
  agree_nth debug rs k w =
      agree_or (entries s) 61 (λ z. omega arith) λ all t. agree_or (get_elem? (records debug all) k) 62 (λ z. omega arith) λ e q.
      agree_or (after (header_place debug rs e) λ place. header_at debug place e.at all) 63 (λ z. omega arith) λ h f.
      agree_fields w (header_stands e debug (header_place debug rs e) t f) (nth_stands s (records debug all) k (records_stand s debug all (entries_stand s t)) q) debug

-- ---- the law

module _ (section relocations : List ℕ) (kind word k q p : ℕ) where
  agree_all : (b : Bool) → asked kind word ≡ b → Agree section word (pick b (locate_nth (eqb kind 1) (relocations_of relocations) word k section) (bad 11))
      (pick b (locate (eqb kind 1) (relocations_of relocations) word k section) (bad 11))
  unfolding pick
  agree_all true e = agree_nth section word (eqb kind 1) (relocations_of relocations) k (asked_word kind word e)
  agree_all false e = refuses 11 (λ z. omega arith)

  agree_reads : {x : Result Located} {y : Result Found} → Agree section word x y → reader.locate_in section relocations kind word k ≡ y
      → rules_of section (located_as (result_of x)) q p ≡ read section relocations kind word k q p
  unfolding rules_of located_as refused pick
  agree_reads (refuses n z) e = rw (ne_eqb n 0 z) (refused_read section relocations kind word k q p e)
  agree_reads (answers l x z a) e = rw (eq-eqb l.number 0 z) (located_read section relocations kind word k q p (rw e a))

  -- the rules from what was located are what is read
  pub rules_located : rules_of section (locate_record section relocations kind word k) q p ≡ read section relocations kind word k q p
  unfolding locate_record reader.locate_in asked
  rules_located = agree_reads (agree_all (asked kind word) refl) refl

  -- numbers of a refusal lie in no section
  refused_unmarked : (n : ℕ) → reader.shortest_from section (reader_places (refused n)) p ≡ false
  unfolding reader.shortest_from reader.in_section reader_places refused is_word_size
  refused_unmarked n = rw (le-leb 0 (length section) (omega arith))

  agree_marks : {x : Result Located} {y : Result Found} → Agree section word x y → reader.locate_in section relocations kind word k ≡ y
      → reader.shortest_from section (reader_places (located_as (result_of x))) p ≡ shortest_at section relocations kind word k p
  unfolding located_as
  agree_marks (refuses n z) e = refused_unmarked n ∙ sym (refused_mark section relocations kind word k p e)
  agree_marks (answers l x z a) e = located_shortest section relocations kind word k p (rw e a)

  -- and so is the mark
  pub mark_located : reader.shortest_from section (reader_places (locate_record section relocations kind word k)) p ≡ shortest_at section relocations kind word k p
  unfolding locate_record reader.locate_in asked
  mark_located = agree_marks (agree_all (asked kind word) refl) refl
