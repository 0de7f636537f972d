-- Searches: for a header, which is found in the rest of the entries, and for a relocation.
use mathlib.Core.Path.{◌≡◌, refl, sym, ap, ◌∙◌}
use mathlib.Core.Bool.{Bool, true, false, ◌&&◌}
use mathlib.Core.Option.{Option, none, some}
use mathlib.Core.List.{List, [], ◌∷◌}
use Prim.Native.Nat.{ℕ, zero, suc, ◌+◌, ◌-◌, ◌*◌, ◌/◌, ◌≤◌, ◌<◌}
use native.Mathlib.Omega.{arith}
use native.Mathlib.Nat.{add-zero}
use native.Mathlib.Numerals.{add-one}
use borrow.Author.Tests.{eq-eqb, ne_eqb, le-leb, lt-leb}
use lib.Dec.{T, eqb, ltb}
use lib.ListN.{length, get_or}
use Rattle.format.specs.Prelude.{pick, after, first, each, Result, good, bad}
use Rattle.format.specs.Questions.{is_some}
use Rattle.format.specs.Reader.{Entry, second, distance_back, is_header, first_addend, header_at, entries}
use Rattle.format.specs.Lists.{relocation_at, relocations_of}
use Rattle.format.specs.Coded.{result_of}
use Rattle.format.proofs.Asked.{option_of}
use Rattle.reader.specs.Finds.{Searching}
use Rattle.reader.specs.Spans.{part, entry_in, entries_from, Ahead}
use Rattle.std.specs.Prelude.{Some, None, Ok, Err}
use Rattle.std.specs.Prelude as code
use Rattle.std.specs.Option.{SomeIff, MatchOption}
use Rattle.std.specs.Fn.{CalledAt}
use Rattle.std.specs.Iterator.{FindsItem}
use Rattle.std.proofs.Common.{subst}
use Rattle.std.proofs.lemmas.Bool.{eqb-true, eqb-false}
use Rattle.std.proofs.lemmas.Iterator.{first_from_Range}
use Rattle.std.proofs.iter.Yields.{nat_range_steps}
use Rattle.std.specs.declared.ops.Range.{Range}
use denote.Param.Members.{Mut}
use denote.Ref.{Bor}

-- ---- the header at a place

abbrev pub header_here : (debug : Bool) → (place before : ℕ) → Entry → Bool
header_here debug place before e = eqb e.at place && ltb place before && is_header debug e

module _ (debug : Bool) (place before : ℕ) (e : Entry) (es : List Entry) where
  pub header_here_lem : header_here debug place before e ≡ true → header_at debug place before (e ∷ es) ≡ some e
  unfolding header_at first pick
  header_here_lem h = simp h

  pub header_later : header_here debug place before e ≡ false → header_at debug place before (e ∷ es) ≡ header_at debug place before es
  unfolding header_at first pick
  header_later h = simp h

pub header_none : (debug : Bool) (place before : ℕ) → header_at debug place before [] ≡ none
unfolding header_at first
header_none debug place before = refl

pub first_ahead : (s : List ℕ) → T (is_some (entries s)) → Ahead s 0
unfolding entries entries_from
first_ahead s t = record { inside = omega arith; tiled = t; found = λ debug place before h. refl }

-- ---- the first relocation at a place

pub search_start : (xs : List ℕ) (place : ℕ) → Searching xs place 0
unfolding relocations_of
search_start xs place =
    let e : length xs / 5 ≡ length xs / 5 - 0 = omega arith in
    record { inside = omega arith; rest = ap (λ (n : ℕ). first_addend place (each (relocation_at xs) 0 n)) e }

module _ {xs : List ℕ} {place i : ℕ} (k : Searching xs place i) where
  module _ (h : i < length xs / 5) where
    at_one : first_addend place (relocations_of xs)
        ≡ after (pick (eqb (get_or xs (5 * i) 0) place) (some (relocation_at xs i)) (first (λ r. eqb r.place place) (each (relocation_at xs) (i + 1) (length xs / 5 - (i + 1))))) λ r. some r.addend
    unfolding first_addend first each relocation_at
    at_one =
        let e : length xs / 5 - i ≡ suc (length xs / 5 - (i + 1)) = omega arith in
        k.rest ∙ rw e (simp (add-zero, add-one))

    pub search_met : get_or xs (5 * i) 0 ≡ place → Some (get_or xs (5 * i + 4) 0) ≡ option_of (first_addend place (relocations_of xs))
    unfolding after pick relocation_at
    search_met e = sym (rw at_one (simp (eq-eqb _ _ e)))

    pub search_turn : (get_or xs (5 * i) 0 ≡ place → ⊥) → Searching xs place (i + 1)
    unfolding pick first_addend
    search_turn n = record { inside = omega arith; rest = at_one ∙ simp (ne_eqb _ _ n) }

  pub search_ended : length xs / 5 ≤ i → None ≡ option_of (first_addend place (relocations_of xs))
  unfolding first_addend first each after
  search_ended h = let e : length xs / 5 - i ≡ 0 = omega arith in sym (rw (k.rest, e))

-- past relocations that are none of that place
pub search_past : {xs : List ℕ} {place : ℕ} (d i : ℕ) → Searching xs place i → i + d ≤ length xs / 5
    → ((k : ℕ) → i ≤ k → k < i + d → get_or xs (5 * k) 0 ≡ place → ⊥) → Searching xs place (i + d)
search_past {xs} {place} zero i k l n = let e : i + 0 ≡ i = omega arith in rw e k
search_past {xs} {place} (suc d) i k l n =
    let e : i + suc d ≡ i + 1 + d = omega arith in
    rw e (search_past d (i + 1) (search_turn k (omega arith) (n i (omega arith) (omega arith))) (omega arith) (λ j a b. n j (omega arith) (omega arith)))

-- the first of that place, by a search from `from` on
module _ {F : Type 0} {g : Mut F (Bor ℕ × Unit {0}) Bool} {f : F} (xs : List ℕ) (place from : ℕ) (u : Range ℕ) (r : code.Option ℕ)
    (answers : (i : ℕ) (b : Bool) (q : F) → CalledAt g f i b q → (q ≡ f) × (b ≡ eqb (get_or xs (5 * i) 0) place)) (k : Searching xs place from)
    (h : FindsItem nat_range_steps g (record { start = from; end = length xs / 5 }) f r u) where
  told : MatchOption r ((k : ℕ) → from ≤ k → k < length xs / 5 → get_or xs (5 * k) 0 ≡ place → ⊥)
      (λ i. (from ≤ i) × (i < length xs / 5) × (get_or xs (5 * i) 0 ≡ place) × ((k : ℕ) → from ≤ k → k < i → get_or xs (5 * k) 0 ≡ place → ⊥))
  told =
      first_from_Range (record { start = from; end = length xs / 5 }) u f r (λ i. get_or xs (5 * i) 0 ≡ place) (λ i. get_or xs (5 * i) 0 ≡ place → ⊥) h
      (λ i q c. eqb-true _ _ (sym (answers i true q c).1))
      (λ i q c. let a = answers i false q c in (a.0, eqb-false _ _ (sym a.1)))

  pub addend_none : r ≡ None → None ≡ option_of (first_addend place (relocations_of xs))
  addend_none e =
      let t = subst (λ (r : code.Option ℕ). MatchOption r ((k : ℕ) → from ≤ k → k < length xs / 5 → get_or xs (5 * k) 0 ≡ place → ⊥) (λ i. (from ≤ i) × (i < length xs / 5) × (get_or xs (5 * i) 0 ≡ place) × ((k : ℕ) → from ≤ k → k < i → get_or xs (5 * k) 0 ≡ place → ⊥))) e told in
      let p : Searching xs place (from + (length xs / 5 - from)) = search_past (length xs / 5 - from) from k (omega (arith, k.inside)) (λ j a b. t j a (omega (arith, k.inside))) in
      search_ended p (omega (arith, k.inside))

  module _ {i : ℕ} (e : r ≡ Some i) where
    there : (from ≤ i) × (i < length xs / 5) × (get_or xs (5 * i) 0 ≡ place) × ((k : ℕ) → from ≤ k → k < i → get_or xs (5 * k) 0 ≡ place → ⊥)
    there = subst (λ (r : code.Option ℕ). MatchOption r ((k : ℕ) → from ≤ k → k < length xs / 5 → get_or xs (5 * k) 0 ≡ place → ⊥) (λ i. (from ≤ i) × (i < length xs / 5) × (get_or xs (5 * i) 0 ≡ place) × ((k : ℕ) → from ≤ k → k < i → get_or xs (5 * k) 0 ≡ place → ⊥))) e told

    pub addend_inside : i < length xs / 5
    addend_inside = there.1

    pub addend_found : Some (get_or xs (5 * i + 4) 0) ≡ option_of (first_addend place (relocations_of xs))
    addend_found =
        let d : i ≡ from + (i - from) = omega (arith, there.0) in
        let p : Searching xs place (from + (i - from)) = search_past (i - from) from k (omega (arith, there.0, there.1)) (λ j a b. there.3 j a (omega (arith, there.0))) in
        search_met (subst (Searching xs place) (sym d) p) there.1 there.2

-- ---- the place that lies a distance before another

pub less_by : (s : List ℕ) (at end : ℕ) {d : ℕ} → d ≡ second (part s (at + 4) end) → (r : code.Option ℕ) → SomeIff r (d ≤ at + 4) (at + 4 - d)
    → r ≡ option_of (distance_back (entry_in s at end))
unfolding distance_back pick
less_by s at end {d} e None h = rw (← e, lt-leb d (at + 4) (omega arith)) refl
less_by s at end {d} e (Some x) h = rw (← e, le-leb d (at + 4) h.0, h.1) refl

-- ---- a value that was found, and one that was not

pub answer_is : {A : Type 0} (r : Result A) {a : A} → result_of r ≡ Ok a → r ≡ good a
answer_is (good a) e = cc
answer_is (bad n) e = let z : ◌≡◌ {A = ℕ} 0 1 = cc in absurd (omega arith)

pub answer_no : {A : Type 0} (r : Result A) {n : ℕ} → result_of r ≡ Err n → r ≡ bad n
answer_no (good a) e = let z : ◌≡◌ {A = ℕ} 0 1 = cc in absurd (omega arith)
answer_no (bad n) e = cc

pub absent : {A : Type 0} (o : Option A) → is_some o ≡ false → o ≡ none
unfolding is_some
absent none e = refl
absent (some a) e = let z : ◌≡◌ {A = ℕ} 0 1 = cc in absurd (omega arith)
