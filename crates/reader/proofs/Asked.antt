-- What the reader answers, by the questions in their order.
use mathlib.Core.Path.{◌≡◌, refl, sym, ap, subst, ◌∙◌}
use Prim.Native.Nat.{ℕ, suc, ◌≤◌, ◌<◌}
use native.Mathlib.Omega.{arith}
use mathlib.Core.Bool.{Bool, true, false, ◌&&◌}
use mathlib.Core.List.{List}
use lib.Dec.{T, leb, eqb, leb→le}
use lib.ListN.{length}
use borrow.Author.Tests.{le-leb}
use mir.Facts.{and_yes}
use Rattle.format.specs.Prelude.{pick, Result, bad, onward}
use Rattle.format.specs.Machine.{is_word_size}
use Rattle.std.specs.Prelude.{Ok, Err}
use Rattle.format.specs.Lists.{relocations_of}
use Rattle.format.specs.Rules.{blank, answer}
use Rattle.format.specs.Numbers.{number_of}
use Rattle.format.specs.declared.question.Question.{Question}
use Rattle.format.specs.Shortest.{run_short}
use Rattle.format.specs.Reader.{Found, run, run_to, shortest_to, shortest_of, shortest_at, locate, read_section, read}
use Rattle.reader.specs.declared.location.Located.{Located}
use Rattle.std.specs.Prelude as code
use Rattle.reader.specs.Finds.{found, Stated, Locates, locate_in, in_section, rules_from, shortest_from}
use Rattle.format.proofs.Choice.{if-le, if-gt, is_true}
use Rattle.format.proofs.Onward.{onward_pick}

-- ---- 11

module _ (section relocations : List ℕ) (kind word k : ℕ) where
  pub not_laid : is_word_size word && leb kind 1 ≡ false → locate_in section relocations kind word k ≡ bad 11
  unfolding locate_in pick
  not_laid e = rw e refl

  pub laid : is_word_size word && leb kind 1 ≡ true → locate_in section relocations kind word k ≡ locate (eqb kind 1) (relocations_of relocations) word k section
  unfolding locate_in pick
  laid e = rw e refl

-- ---- numbers that lie in a section, and those that do not

module _ (s : List ℕ) (l : Located) where
  pub all_inside : l.header ≤ l.header_end → l.header_end ≤ length s → l.«record» ≤ l.record_end → l.record_end ≤ length s
      → in_section s l ≡ is_word_size l.word
  unfolding in_section
  all_inside a b c d =
      rw
      (le-leb l.header l.header_end a, le-leb l.header_end (length s) b, le-leb l.«record» l.record_end c, le-leb l.record_end (length s) d)
      refl

  -- what the run asks for
  pub places : T (in_section s l)
      → T (is_word_size l.word) × (l.header ≤ l.header_end) × (l.header_end ≤ length s) × (l.«record» ≤ l.record_end) × (l.record_end ≤ length s)
  unfolding in_section
  places t =
      let a = and_yes (leb l.header l.header_end) _ t in
      let b = and_yes (leb l.header_end (length s)) _ a.1 in
      let c = and_yes (leb l.«record» l.record_end) _ b.1 in
      let d = and_yes (leb l.record_end (length s)) _ c.1 in (
        d.1,
        leb→le l.header l.header_end a.0,
        leb→le l.header_end (length s) b.0,
        leb→le l.«record» l.record_end c.0,
        leb→le l.record_end (length s) d.0,
      )

  pub fits : in_section s l ≡ true
      → T (is_word_size l.word) × (l.header ≤ l.header_end) × (l.header_end ≤ length s) × (l.«record» ≤ l.record_end) × (l.record_end ≤ length s)
  fits e = places (rw e tt)

  -- 64, 65, and the run
  module _ (q p : ℕ) where
    pub not_in_section : in_section s l ≡ false → Err 64 ≡ rules_from s l q p
    unfolding rules_from pick answer
    not_in_section e = rw e refl

    module _ (e : in_section s l ≡ true) where
      run_from : rules_from s l q p ≡ answer q (run_to l.word p (found s l))
      unfolding rules_from pick
      run_from = rw e refl

      pub past_the_end : l.size ≤ p → Err 65 ≡ rules_from s l q p
      unfolding run_to answer
      past_the_end h = sym (run_from ∙ ap (answer q) (if-gt (suc p) l.size _ (bad 65) (omega arith)))

      pub within : p < l.size
          → answer q
          (onward (run true l.word p blank.current.rules blank (found s l).header.operations) λ t.
          run false l.word p t.current.rules t (found s l).found.operations)
          ≡ rules_from s l q p
      unfolding run_to
      within h = sym (run_from ∙ ap (answer q) (if-le (suc p) l.size _ (bad 65) h))

  -- what is marked, part after part
  module _ (p : ℕ) where
    abbrev header_ops : Bool
    header_ops = run_short l.word p (found s l).header.operations

    abbrev record_ops : Bool
    record_ops = run_short l.word p (found s l).found.operations

    pub mark_outside : in_section s l ≡ false → false ≡ shortest_from s l p
    unfolding shortest_from
    mark_outside e = rw e

    module _ (e : in_section s l ≡ true) where
      pub mark_fields : l.shortest ≡ false → false ≡ shortest_from s l p
      unfolding shortest_from shortest_to
      mark_fields f = rw (e, f)

      pub mark_header : l.shortest ≡ true → header_ops ≡ false → false ≡ shortest_from s l p
      unfolding shortest_from shortest_to
      mark_header f g = rw (e, f, g)

      pub mark_record : l.shortest ≡ true → header_ops ≡ true → record_ops ≡ shortest_from s l p
      unfolding shortest_from shortest_to
      mark_record f g = rw (e, f, g)

-- ---- the two in a row

-- what `locate` said of the place that it found, and of the question that it refused by
pub place_found : {s : List ℕ} {word : ℕ} {r : code.Result Located Question} {l : Located} {x : Result Found} → r ≡ Ok l → Locates s word r x → Stated s word l x
place_found {s} {word} {r} {l} {x} e h = subst (λ (t : code.Result Located Question). Locates s word t x) e h

pub place_refused : (s : List ℕ) (word : ℕ) {r : code.Result Located Question} {q : Question} {x : Result Found} → r ≡ Err q → Locates s word r x → x ≡ bad (number_of q)
place_refused s word {r} {q} {x} e h = subst (λ (t : code.Result Located Question). Locates s word t x) e h

module _ (section relocations : List ℕ) (kind word k q p : ℕ) where
  -- reading is locating, and then the run
  pub read_is : read section relocations kind word k q p ≡ answer q (onward (locate_in section relocations kind word k) (run_to word p))
  unfolding read read_section locate_in
  read_is = ap (answer q) (onward_pick (is_word_size word && leb kind 1) (locate (eqb kind 1) (relocations_of relocations) word k section) (run_to word p))

  -- the rules from what was located are what is read
  pub located_read : {l : Located} → Stated section word l (locate_in section relocations kind word k)
      → rules_from section l q p ≡ read section relocations kind word k q p
  unfolding rules_from pick onward
  located_read {l} x =
      let w : is_word_size l.word ≡ true = ap is_word_size x.same_word ∙ is_true (is_word_size word) x.is_word in
      let e : in_section section l ≡ true =
      all_inside section l x.header_ordered x.header_inside x.record_ordered x.record_inside ∙ w in
      rw (e, x.same_word) (sym (read_is ∙ rw x.answer))

  pub refused_read : {n : ℕ} → locate_in section relocations kind word k ≡ bad n → Err n ≡ read section relocations kind word k q p
  unfolding onward answer
  refused_read e = sym (read_is ∙ rw e)

-- the mark from what was located is the reader's
pub located_shortest : (section relocations : List ℕ) (kind word k p : ℕ) {l : Located} → Stated section word l (locate_in section relocations kind word k)
    → shortest_from section l p ≡ shortest_at section relocations kind word k p
unfolding shortest_from shortest_at shortest_of locate_in
located_shortest section relocations kind word k p {l} x =
    let w : is_word_size l.word ≡ true = ap is_word_size x.same_word ∙ is_true (is_word_size word) x.is_word in
    let e : in_section section l ≡ true =
    all_inside section l x.header_ordered x.header_inside x.record_ordered x.record_inside ∙ w in
    rw (e, x.same_word) (sym (rw x.answer))

pub refused_mark : (section relocations : List ℕ) (kind word k p : ℕ) {n : ℕ} → locate_in section relocations kind word k ≡ bad n
    → shortest_at section relocations kind word k p ≡ false
unfolding shortest_at shortest_of locate_in
refused_mark section relocations kind word k p e = rw e
