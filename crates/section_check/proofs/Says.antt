-- What the check means. An answer for register 0 at the last offset is one for every register at every offset below the length, so the test of a record is what is asked of it.
use mathlib.Core.Path.{◌≡◌, refl, ap, ◌∙◌}
use mathlib.Core.Bool.{Bool, true, false, not, ◌&&◌}
use mathlib.Core.Option.{Option, none, some}
use mathlib.Core.List.{List, [], ◌∷◌}
use Prim.Native.Nat.{ℕ, zero, suc, ◌+◌, ◌≤◌, ◌<◌}
use native.Mathlib.Omega.{arith}
use lib.Dec.{T, T_not}
use lib.ListN.{get_elem?}
use Rattle.format.specs.Prelude.{pick}
use Rattle.format.specs.Machine.{is_word_size}
use Rattle.format.specs.Questions.{is_some}
use Rattle.format.specs.Reader.{Entry, entries, records}
use Rattle.format.specs.Coded.{Reading}
use Rattle.std.specs.Prelude.{Ok, Err}
use Rattle.format.proofs.Choice.{pick_yes, pick_no, tested}
use Rattle.format.proofs.Prefix.{Answers, prefix}
use Rattle.format.proofs.RegisterFree.{Alike, refused, answered, register_free}
use Rattle.reader.specs.Spans.{listed}
use Rattle.reader.proofs.Seeking.{absent}
use Rattle.section_check.specs.Check.{length_of, answers, read_at, Passes, last_answers, passes, saying, check_from, check_entries, check_section, Sound, FailsFirst, Means}
use Rattle.section_check.specs.declared.Checked.{Checked}

-- ---- one record

to_answers : (r : Reading) → T (answers r) → Answers r
unfolding answers
to_answers (Ok a) t = tt
to_answers (Err n) t = absurd t

from_answers : (r : Reading) → Answers r → T (answers r)
unfolding answers
from_answers (Ok a) t = tt
from_answers (Err n) t = absurd t

alike_answers : {r r' : Reading} → Alike r r' → T (answers r) → T (answers r')
unfolding answers
alike_answers (refused n) t = absurd t
alike_answers (answered c r r' s) t = tt

module _ (section : List ℕ) (word k : ℕ) where
  below_last : (q p last : ℕ) → p ≤ last → T (answers (read_at section word k 0 last)) → T (answers (read_at section word k q p))
  below_last q p last h t =
      alike_answers (register_free section [] 0 word k 0 q p) (from_answers _ (prefix section [] 0 word k 0 last p h (to_answers _ t)))

  asked : (e : Entry) (o : Option ℕ) → length_of e ≡ o → T (last_answers section word k o) → Passes section word k e
  unfolding last_answers
  asked e none l t = absurd t
  asked e (some zero) l t = record { size = 0; inside = l; answered = λ q p h. absurd (omega arith) }
  asked e (some (suc n)) l t = record { size = suc n; inside = l; answered = λ q p h. below_last q p n (omega arith) t }

  answered_last : (e : Entry) (o : Option ℕ) → length_of e ≡ o → Passes section word k e → T (last_answers section word k o)
  unfolding last_answers
  answered_last e none l a = let f = a.inside in let z : ◌≡◌ {A = ℕ} 0 1 = cc in absurd (omega arith)
  answered_last e (some zero) l a = tt
  answered_last e (some (suc n)) l a = let f = a.inside in let same : a.size ≡ suc n = cc in a.answered 0 n (omega arith)

  -- The test of a record says yes exactly where all that is asked of it holds.
  pub test_says : (e : Entry) → (T (passes section word k e) → Passes section word k e) × (Passes section word k e → T (passes section word k e))
  unfolding passes
  test_says e = (asked e (length_of e) refl, answered_last e (length_of e) refl)

-- ---- the records from record k on

-- record k + j of them is the first that does not pass
record FirstOf (section : List ℕ) (word k : ℕ) (es : List Entry) (r : ℕ) : Type 0 where
  index : ℕ
  place : r ≡ k + index
  entry : Entry
  there : get_elem? es index ≡ some entry
  fails : Passes section word r entry → ⊥
  earlier : (j : ℕ) (e : Entry) → j < index → get_elem? es j ≡ some e → Passes section word (k + j) e

-- the word, by question 11 of an eh_frame section
pub word_asked : (b : Bool) {c : Bool} → b && true ≡ c → b ≡ c
word_asked true e = e
word_asked false e = e

over : (section : List ℕ) (word : ℕ) (o : Option (List Entry)) → T (is_some o) → check_from section word 0 (records false (listed o)) ≡ check_entries section word o
unfolding is_some listed check_entries
over section word none t = absurd t
over section word (some es) t = refl

module _ (section : List ℕ) (word : ℕ) where
  module _ (k : ℕ) (x : Entry) (es : List Entry) where
    on : T (passes section word k x) → check_from section word k (x ∷ es) ≡ check_from section word (suc k) es
    unfolding check_from
    on t = pick_yes (passes section word k x) _ _ t

    stopped : T (not (passes section word k x)) → check_from section word k (x ∷ es) ≡ saying 84 k
    unfolding check_from
    stopped t = pick_no (passes section word k x) _ _ t

    -- what holds of record k holds of its entry
    first_passes : T (passes section word k x) → (e : Entry) → some x ≡ some e → (n : ℕ) → n ≡ k → Passes section word n e
    first_passes t e s n same = let d : x ≡ e = cc in rw (same, ← d) ((test_says section word k x).0 t)

    earlier_on : T (passes section word k x) → {r : ℕ} (f : FirstOf section word (suc k) es r)
        → (j : ℕ) (e : Entry) → j < suc f.index → get_elem? (x ∷ es) j ≡ some e → Passes section word (k + j) e
    earlier_on t f zero e h s = first_passes t e s (k + 0) (omega arith)
    earlier_on t f (suc j) e h s = let n : suc k + j ≡ k + suc j = omega arith in rw n at (f.earlier j e (omega arith) s)

  all_pass : (k : ℕ) (es : List Entry) → (check_from section word k es).number ≡ 0 → (j : ℕ) (e : Entry) → get_elem? es j ≡ some e → Passes section word (k + j) e
  unfolding saying
  all_pass k [] z j e s = let y : ◌≡◌ {A = ℕ} 0 1 = cc in absurd (omega arith)
  all_pass k (x ∷ es) z zero e s =
      tested (passes section word k x)
      (λ t. first_passes k x es t e s (k + 0) (omega arith))
      (λ t. let y : ◌≡◌ {A = ℕ} 84 0 = rw (stopped k x es t) at z in absurd (omega arith))
  all_pass k (x ∷ es) z (suc j) e s =
      tested (passes section word k x)
      (λ t. let n : suc k + j ≡ k + suc j = omega arith in rw n at (all_pass (suc k) es (rw (on k x es t) at z) j e s))
      (λ t. let y : ◌≡◌ {A = ℕ} 84 0 = rw (stopped k x es t) at z in absurd (omega arith))

  none_fails : (k : ℕ) (es : List Entry) → ((j : ℕ) (e : Entry) → get_elem? es j ≡ some e → Passes section word (k + j) e) → check_from section word k es ≡ saying 0 0
  unfolding check_from
  none_fails k [] all = refl
  none_fails k (x ∷ es) all =
      let n : k + 0 ≡ k = omega arith in
      let here : Passes section word k x = rw n at (all 0 x refl) in
      on k x es ((test_says section word k x).1 here)
      ∙ none_fails (suc k) es (λ j e s. let m : k + suc j ≡ suc k + j = omega arith in rw m at (all (suc j) e s))

  first_fails : (k : ℕ) (es : List Entry) → (check_from section word k es).number ≡ 84 → FirstOf section word k es (check_from section word k es).«record»
  unfolding check_from saying
  first_fails k [] z = absurd (omega arith)
  first_fails k (x ∷ es) z =
      tested (passes section word k x)
      (λ t.
      let f = first_fails (suc k) es (rw (on k x es t) at z) in
      let same = on k x es t in
      rw same (record {
        index = suc f.index;
        place = omega (arith, f.place);
        entry = f.entry;
        there = f.there;
        fails = f.fails;
        earlier = earlier_on k x es t f;
      }))
      (λ t. rw (stopped k x es t) (record {
        index = 0;
        place = omega arith;
        entry = x;
        there = refl;
        fails = λ a. T_not (passes section word k x) t ((test_says section word k x).1 a);
        earlier = λ j e h s. absurd (omega arith);
      }))

  -- ---- the section

  module _ (w : T (is_word_size word)) where
    by_entries : check_section section word ≡ check_entries section word (entries section)
    unfolding check_section
    by_entries = pick_yes (is_word_size word) _ _ w

    by_records : (es : List Entry) → entries section ≡ some es → check_section section word ≡ check_from section word 0 (records false es)
    unfolding check_entries
    by_records es t = by_entries ∙ rw t

  -- a number other than 11 and 61 is one of records that were gone through
  record Gone : Type 0 where
    is_word : T (is_word_size word)
    listed : List Entry
    tiles : entries section ≡ some listed

  gone_through : (o : Option (List Entry)) → entries section ≡ o → T (is_word_size word) → ((check_entries section word o).number ≡ 61 → ⊥) → Gone
  unfolding check_entries saying
  gone_through none t w n = absurd (n refl)
  gone_through (some es) t w n = record { is_word = w; listed = es; tiles = t }

  gone : ((check_section section word).number ≡ 11 → ⊥) → ((check_section section word).number ≡ 61 → ⊥) → Gone
  unfolding check_section saying
  gone n m =
      tested (is_word_size word)
      (λ w. gone_through (entries section) refl w (λ z. m (rw (by_entries w) z)))
      (λ w. absurd (n (ap (λ (r : Checked). r.number) (pick_no (is_word_size word) _ (saying 11 0) w))))

  sound : (check_section section word).number ≡ 0 → Sound section word
  sound z =
      let g = gone (λ y. omega arith) (λ y. omega arith) in
      let n : (check_from section word 0 (records false g.listed)).number ≡ 0 = rw (by_records g.is_word g.listed g.tiles) at z in
      record { is_word = g.is_word; listed = g.listed; tiles = g.tiles; pass = λ k e s. let m : 0 + k ≡ k = omega arith in rw m at (all_pass 0 (records false g.listed) n k e s) }

  pub accepted : Sound section word → check_section section word ≡ saying 0 0
  accepted s =
      by_records s.is_word s.listed s.tiles
      ∙ none_fails 0 (records false s.listed) (λ j e t. let m : j ≡ 0 + j = omega arith in rw m at (s.pass j e t))

  failing : (check_section section word).number ≡ 84 → FailsFirst section word (check_section section word).«record»
  failing z =
      let g = gone (λ y. omega arith) (λ y. omega arith) in
      let same = by_records g.is_word g.listed g.tiles in
      let f = first_fails 0 (records false g.listed) (rw same at z) in
      let at : f.index ≡ (check_from section word 0 (records false g.listed)).«record» = omega (arith, f.place) in
      rw same (record {
        is_word = g.is_word;
        listed = g.listed;
        tiles = g.tiles;
        entry = f.entry;
        there = rw at at f.there;
        fails = f.fails;
        earlier = λ j e h t. let m : 0 + j ≡ j = omega arith in rw m at (f.earlier j e (omega (arith, f.place)) t);
      })

  -- 0 exactly where the word is one, the section tiles and every record passes as asked; 84 with k: record k does not, and every record before it does.
  pub means : Means section word (check_section section word)
  unfolding saying
  means = record { accepted = sound; only = λ s. ap (λ (r : Checked). r.number) (accepted s); failing = failing }

  -- ---- what the code answers

  pub no_word : is_word_size word ≡ false → saying 11 0 ≡ check_section section word
  unfolding check_section pick
  no_word e = rw e

  module _ (w : is_word_size word ≡ true) where
    pub untiled : is_some (entries section) ≡ false → saying 61 0 ≡ check_section section word
    unfolding check_section check_entries pick
    untiled e = rw (w, absent (entries section) e)

    pub gone_over : T (is_some (entries section)) → check_from section word 0 (records false (listed (entries section))) ≡ check_section section word
    unfolding check_section pick
    gone_over t = rw w (over section word (entries section) t)

  -- an answer that is the definition's means what it means
  pub with_meaning : {r : Checked} → r ≡ check_section section word → (r ≡ check_section section word) × Means section word r
  with_meaning e = (e, rw e means)
