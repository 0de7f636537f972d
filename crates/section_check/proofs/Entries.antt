-- A record by its entry: reading record k is reading the entry that it is, and the code's answers for that entry.
use mathlib.Core.Path.{◌≡◌, refl, sym, ap, subst, ◌∙◌}
use mathlib.Core.Bool.{Bool, true, false, ◌&&◌}
use mathlib.Core.Option.{Option, none, some}
use mathlib.Core.List.{List, []}
use Prim.Native.Nat.{ℕ, zero, suc, ◌+◌, ◌-◌}
use native.Mathlib.Omega.{arith}
use lib.Dec.{T}
use lib.ListN.{drop, get_elem?}
use Rattle.format.specs.Prelude.{pick, Read, next, after, Result, bad, onward, or_else}
use Rattle.format.specs.Leb.{read_little}
use Rattle.format.proofs.Asked.{option_of, value_is, none_is}
use Rattle.format.proofs.Onward.{onward_assoc}
use Rattle.std.specs.Prelude.{Some, None, Ok, Err}
use Rattle.std.specs.Prelude as code
use Rattle.std.specs.Result.{is_ok}
use Rattle.format.specs.Machine.{is_word_size}
use Rattle.format.specs.Lists.{relocations_of}
use Rattle.format.specs.Rules.{State, answer}
use Rattle.format.specs.Reader.{Entry, Found, entries, records, distance_back, header_place, header_at, parsed, locate, run_to, read_section, read}
use Rattle.format.specs.Coded.{Reading, numbered}
use Rattle.format.specs.declared.Rules.{Rules}
use Rattle.format.specs.declared.question.Question.{Question}
use Rattle.operations.specs.declared.fields.Position.{Position}
use Rattle.format.proofs.Choice.{pick_yes, is_true}
use Rattle.operations.specs.Positions.{little_at, read_from, from}
use Rattle.reader.specs.Spans.{part, entry_in, entry_of, listed, Stands, Spans}
use Rattle.reader.specs.Finds.{found, Stated, Locates, in_section, rules_from}
use Rattle.reader.specs.declared.location.Located.{Located}
use Rattle.reader.specs.declared.section.Span.{Span}
use Rattle.operations.proofs.PositionLaws.{both_are}
use Rattle.reader.proofs.Asked.{place_found, place_refused, all_inside}
use Rattle.section_check.specs.Check.{length_of, answers, read_at, last_answers, passes}
use Rattle.section_check.specs.Places.{read_in, answers_in, last_in, passes_in}

-- ---- the header

module _ (s : List ℕ) (at end : ℕ) where
  abbrev header_of : Option Entry
  header_of = after (distance_back (entry_in s at end)) λ place. header_at false place at (listed (entries s))

  pub no_place : None ≡ option_of (distance_back (entry_in s at end)) → header_of ≡ none
  unfolding after
  no_place e = rw (none_is (distance_back (entry_in s at end)) (sym e))

  module _ {place : ℕ} (e : Some place ≡ option_of (distance_back (entry_in s at end))) where
    pub place_of : header_of ≡ header_at false place at (listed (entries s))
    unfolding after
    place_of = rw (value_is (distance_back (entry_in s at end)) (sym e))

-- ---- the length

-- the first of what was read
first_none : (p : Position) (b : Bool) (size : ℕ) (x : Read ℕ) → read_from p b size x ≡ None → None ≡ option_of (next x λ n rest. some n)
unfolding read_from next
first_none p b size none e = refl
first_none p b size (some x) e = let z : ◌≡◌ {A = ℕ} 0 1 = cc in absurd (omega arith)

first_some : (p : Position) (b : Bool) (size : ℕ) {n : ℕ} {q : Position} (x : Read ℕ) → read_from p b size x ≡ Some (n, q) → Some n ≡ option_of (next x λ n rest. some n)
unfolding read_from next
first_some p b size none e = let z : ◌≡◌ {A = ℕ} 0 1 = cc in absurd (omega arith)
first_some p b size (some x) e = ap Some (sym (both_are e).0)

module _ (s : List ℕ) (at end : ℕ) where
  abbrev four : code.Option (ℕ × Position)
  four = little_at 4 (part s (at + 4) end) (from 8)

  pub sizeless : four ≡ None → None ≡ option_of (length_of (entry_in s at end))
  unfolding little_at length_of
  sizeless e = first_none _ _ _ (read_little 4 (drop 8 (part s (at + 4) end))) e

  pub sized : {n : ℕ} {q : Position} → four ≡ Some (n, q) → Some n ≡ option_of (length_of (entry_in s at end))
  unfolding little_at length_of
  sized e = first_some _ _ _ (read_little 4 (drop 8 (part s (at + 4) end))) e

-- ---- the rules at an offset

-- the reader answers where its result is a value
pub ok_answers : (r : code.Result Rules Question) → is_ok r ≡ answers (numbered r)
unfolding answers
ok_answers (Ok rules) = refl
ok_answers (Err n) = refl

-- the rules from what was parsed
located_rules : (s : List ℕ) (word : ℕ) (x : Located) (p : ℕ) {y : Result Found} → Stated s word x y → rules_from s x 0 p ≡ answer 0 (run_to word p (found s x))
unfolding rules_from pick
located_rules s word x p a =
    let w : is_word_size x.word ≡ true = ap is_word_size a.same_word ∙ is_true (is_word_size word) a.is_word in
    let i : in_section s x ≡ true = all_inside s x a.header_ordered a.header_inside a.record_ordered a.record_inside ∙ w in
    rw (i, a.same_word)

module _ (s : List ℕ) (word at end p : ℕ) where
  abbrev entry : Entry
  entry = entry_in s at end

  module _ {r : code.Option Span} (m : Spans s r (header_of s at end)) where
    pub headless : r ≡ None → false ≡ answers_in s word entry p
    unfolding answers_in read_in onward or_else answer answers
    headless e = let n : header_of s at end ≡ none = subst (λ (r : code.Option Span). Spans s r (header_of s at end)) e m in rw n

    module _ {h : Span} (e : r ≡ Some h) where
      pub header_stands : Stands s h.at h.end (header_of s at end)
      header_stands = subst (λ (r : code.Option Span). Spans s r (header_of s at end)) e m

      behind_header : read_in s word entry p ≡ onward (parsed false word (entry_of s h) entry) (run_to word p)
      unfolding read_in onward or_else
      behind_header = rw header_stands.found

      module _ {l : code.Result Located Question} (k : Locates s word l (parsed false word (entry_of s h) entry)) where
        pub unparsed : {n : Question} → l ≡ Err n → false ≡ answers_in s word entry p
        unfolding answers_in onward answer answers
        unparsed f = rw (behind_header, place_refused s word f k)

        module _ {x : Located} (f : l ≡ Ok x) where
          rules_in : rules_from s x 0 p ≡ answer 0 (read_in s word entry p)
          unfolding onward
          rules_in =
              let a = place_found f k in
              located_rules s word x p a ∙ rw (behind_header, a.answer)

          pub answered_in : {g : Reading} → g ≡ rules_from s x 0 p → answers g ≡ answers_in s word entry p
          unfolding answers_in
          answered_in e = ap answers (e ∙ rules_in)

-- ---- the test

last_in_lem : (s : List ℕ) (word : ℕ) (e : Entry) (n : ℕ) → (n ≡ 0 → ⊥) → answers_in s word e (n - 1) ≡ last_in s word e (some n)
unfolding last_in
last_in_lem s word e zero z = absurd (z refl)
last_in_lem s word e (suc n) z = let m : suc n - 1 ≡ n = omega arith in rw m

module _ (s : List ℕ) (word at end : ℕ) {r : code.Option ℕ} (m : r ≡ option_of (length_of (entry_in s at end))) where
  pub no_size : r ≡ None → false ≡ passes_in s word (entry_in s at end)
  unfolding passes_in last_in
  no_size e = rw (none_is _ (sym m ∙ e))

  module _ {n : ℕ} (e : r ≡ Some n) where
    pub size_zero : n ≡ 0 → true ≡ passes_in s word (entry_in s at end)
    unfolding passes_in last_in
    size_zero z = rw (value_is _ (sym m ∙ e), z)

    pub size_more : (n ≡ 0 → ⊥) → answers_in s word (entry_in s at end) (n - 1) ≡ passes_in s word (entry_in s at end)
    unfolding passes_in
    size_more z = rw (value_is _ (sym m ∙ e)) (last_in_lem s word (entry_in s at end) n z)

-- ---- record k

and-true : (b : Bool) → T b → T (b && true)
and-true true t = tt
and-true false t = absurd t

module _ (s : List ℕ) (word k : ℕ) (w : T (is_word_size word)) (es : List Entry) (t : entries s ≡ some es) (e : Entry) (h : get_elem? (records false es) k ≡ some e) where
  read_entry : (p : ℕ) → read_section false (relocations_of []) word k p s ≡ read_in s word e p
  unfolding read_section locate read_in header_place or_else listed onward
  read_entry p = rw (t, h) (sym (onward_assoc (or_else (after (distance_back e) λ place. header_at false place e.at es) 63) (λ x. parsed false word x e) (run_to word p)))

  read_answers : (p : ℕ) → answers (read_at s word k 0 p) ≡ answers_in s word e p
  unfolding read answers_in
  read_answers p = ap (λ (x : Result State). answers (answer 0 x)) (pick_yes (is_word_size word && true) _ (bad 11) (and-true (is_word_size word) w) ∙ read_entry p)

  last_same : (o : Option ℕ) → last_answers s word k o ≡ last_in s word e o
  unfolding last_answers last_in
  last_same none = refl
  last_same (some zero) = refl
  last_same (some (suc p)) = read_answers p

  pub passes_same : passes s word k e ≡ passes_in s word e
  unfolding passes passes_in
  passes_same = last_same (length_of e)
