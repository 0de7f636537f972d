-- What the reader's answer of one register says of the rules of all.
use mathlib.Core.Path.{◌≡◌, refl, sym, ap, ◌∙◌}
use mathlib.Core.Bool.{Bool, true, false}
use Prim.Native.Nat.{ℕ, ◌≤◌}
use native.Mathlib.Omega.{arith}
use mathlib.Core.List.{List}
use lib.Dec.{T, leb, eqb}
use Rattle.format.specs.Prelude.{pick, Result, good, bad, onward}
use Rattle.format.specs.declared.Rules.{Rules}
use Rattle.std.specs.Prelude.{Ok, Err}
use Rattle.format.specs.Machine.{is_word_size}
use Rattle.format.specs.Lists.{relocations_of}
use Rattle.format.specs.Rules.{AllRules, State, rules_for, seen, answer}
use Rattle.format.specs.Reader.{locate, run_to}
use Rattle.format.proofs.Choice.{is_true}
use Rattle.reader.specs.Finds.{Stated, locate_in, in_section, rules_from}
use Rattle.reader.proofs.Asked.{all_inside, fits}
use Rattle.reader.specs.declared.location.Located.{Located}
use Rattle.walk.specs.Recorded.{Slot}
use Rattle.walk.specs.Walk.{Memory, Ruled, left_by, left_from, left, frame_address, undefined, returned_to, caller_of, by_section}
use Rattle.format.specs.Coded.{result_of}
use Rattle.format.specs.declared.Machine.{Machine}
use Rattle.format.proofs.Onward.{onward_pick}
use mathlib.Core.Option.{none, some}
use lib.ListN.{length, set}
use Rattle.walked.specs.Standing.{state_in, is_good, rules_of, rules_in, ruled_in, source_in}

answered_of : (o : Result State) (q : ℕ) {x : Rules} → answer q o ≡ Ok x → (T (is_good o)) × (x ≡ rules_for q (rules_of o))
unfolding answer seen is_good rules_of
answered_of (good s) q e = (tt, cc)
answered_of (bad n) q e = let z : ◌≡◌ {A = ℕ} 0 1 = cc in absurd (omega arith)

refused_of : (o : Result State) (q : ℕ) {n : ℕ} → answer q o ≡ Err n → o ≡ bad n
unfolding answer seen
refused_of (good s) q e = let z : ◌≡◌ {A = ℕ} 0 1 = cc in absurd (omega arith)
refused_of (bad n) q e = cc

not_good : {o : Result State} {n : ℕ} → o ≡ bad n → T (is_good o) → ⊥
unfolding is_good
not_good e t = rw e at t

module _ (s : List ℕ) (l : Located) (q p : ℕ) where
  pub answered : {x : Rules} → rules_from s l q p ≡ Ok x → (T (is_good (state_in s l p))) × (x ≡ rules_for q (rules_in s l p))
  unfolding rules_from state_in rules_in
  answered e = answered_of (state_in s l p) q e

  pub refused : {n : ℕ} → rules_from s l q p ≡ Err n → state_in s l p ≡ bad n
  unfolding rules_from state_in
  refused e = refused_of (state_in s l p) q e

  pub never : {n : ℕ} → rules_from s l q p ≡ Err n → T (is_good (state_in s l p)) → ⊥
  never e t = not_good (refused e) t

-- ---- a caller, by what is asked before it

module _ (ret : ℕ) (signing exact : Bool) {x : Result (List Slot)} where
  pub resumed_bad : {n : ℕ} → bad n ≡ x → bad n ≡ onward x (λ ss. returned_to ss ret signing exact)
  unfolding onward
  resumed_bad e = rw (← e)

  pub resumed_good : (ss : List Slot) → good ss ≡ x → returned_to ss ret signing exact ≡ onward x (λ ss. returned_to ss ret signing exact)
  unfolding onward
  resumed_good ss e = rw (← e)

module _ (m : Memory) (stack cfa : ℕ) (u : AllRules) (before : List Slot) where
  pub left_bad : {n : ℕ} → bad n ≡ left_from (λ reg. left_by m cfa before reg (u.rules reg)) 0 128 → bad n ≡ left m stack cfa u before
  unfolding left onward
  left_bad e = rw (← e)

  pub left_good : (ss : List Slot) → good ss ≡ left_from (λ reg. left_by m cfa before reg (u.rules reg)) 0 128 → good (set ss stack (some cfa)) ≡ left m stack cfa u before
  unfolding left onward
  left_good ss e = rw (← e)

address_bad : (r : Result ℕ) {n : ℕ} → Err n ≡ result_of r → r ≡ bad n
address_bad (good a) e = let z : ◌≡◌ {A = ℕ} 0 1 = cc in absurd (omega arith)
address_bad (bad n) e = cc

address_good : (r : Result ℕ) {a : ℕ} → Ok a ≡ result_of r → r ≡ good a
address_good (good a) e = cc
address_good (bad n) e = let z : ◌≡◌ {A = ℕ} 0 1 = cc in absurd (omega arith)

module _ (k : Machine) (m : Memory) (u : Ruled) (before : List Slot) where
  pub caller_none : undefined (u.rules.rules k.ret) ≡ true → good none ≡ caller_of k m u before
  unfolding caller_of pick
  caller_none e = rw e

  module _ (d : undefined (u.rules.rules k.ret) ≡ false) where
    pub caller_bad : {n : ℕ} → Err n ≡ result_of (frame_address u.rules.cfa before) → bad n ≡ caller_of k m u before
    unfolding caller_of pick onward
    caller_bad e = rw (d, address_bad (frame_address u.rules.cfa before) e)

    pub caller_at : {cfa : ℕ} → Ok cfa ≡ result_of (frame_address u.rules.cfa before)
        → onward (left m k.stack cfa u.rules before) (λ ss. returned_to ss k.ret u.rules.signing u.signal) ≡ caller_of k m u before
    unfolding caller_of pick onward
    caller_at e = rw (d, address_good (frame_address u.rules.cfa before) e)

-- ---- what the reader says of a record that was located

source_of : (signal : Bool) (o : Result State) → T (is_good o) → onward {B = Ruled} o (λ t. good (record { rules = t.current; signal = signal })) ≡ good (record { rules = rules_of o; signal = signal })
unfolding is_good onward rules_of
source_of signal (good t) g = refl
source_of signal (bad n) g = absurd g

inside_of : (b : Bool) (r : Result State) → T (is_good (pick b r (bad 64))) → b ≡ true
unfolding pick is_good
inside_of true r g = refl
inside_of false r g = absurd g

module _ (s : List ℕ) (l : Located) (p : ℕ) where
  -- what is read lies in the section
  pub places : T (is_good (state_in s l p))
      → T (is_word_size l.word) × (l.header ≤ l.header_end) × (l.header_end ≤ length s) × (l.«record» ≤ l.record_end) × (l.record_end ≤ length s)
  unfolding state_in
  places g = fits s l (inside_of (in_section s l) _ g)

  module _ (k : Machine) (m : Memory) (before : List Slot) where
    pub caller_ruled : T (is_good (state_in s l p)) → caller_of k m (ruled_in s l p) before ≡ onward (source_in s l p) (λ u. caller_of k m u before)
    unfolding source_in rules_in onward
    caller_ruled g = rw (source_of l.signal (state_in s l p) g)

    pub caller_unread : {n : ℕ} → state_in s l p ≡ bad n → bad n ≡ onward (source_in s l p) (λ u. caller_of k m u before)
    unfolding source_in onward
    caller_unread e = rw e

module _ (section relocations : List ℕ) (kind k p : ℕ) where
  by_section_lem : by_section section relocations kind k p
      ≡ onward (locate_in section relocations kind 8 k) (λ x. onward (run_to 8 p x) λ t. good (record { rules = t.current; signal = x.header.signal }))
  unfolding by_section locate_in is_word_size
  by_section_lem = onward_pick (leb kind 1) (locate (eqb kind 1) (relocations_of relocations) 8 k section) _

  pub section_no : {n : ℕ} → locate_in section relocations kind 8 k ≡ bad n → by_section section relocations kind k p ≡ bad n
  unfolding onward
  section_no e = by_section_lem ∙ rw e

  pub section_source : {l : Located} → Stated section 8 l (locate_in section relocations kind 8 k) → source_in section l p ≡ by_section section relocations kind k p
  unfolding source_in state_in pick onward
  section_source {l} x =
      let w : is_word_size l.word ≡ true = ap is_word_size x.same_word ∙ is_true (is_word_size 8) x.is_word in
      let e : in_section section l ≡ true = all_inside section l x.header_ordered x.header_inside x.record_ordered x.record_inside ∙ w in
      rw (e, x.same_word) (sym (by_section_lem ∙ rw x.answer))

module _ (section relocations : List ℕ) (kind n p : ℕ) (k : Machine) (m : Memory) (before : List Slot) where
  pub caller_by : {l : Located} → Stated section 8 l (locate_in section relocations kind 8 n)
      → onward (source_in section l p) (λ u. caller_of k m u before) ≡ onward (by_section section relocations kind n p) (λ u. caller_of k m u before)
  caller_by x = rw (section_source section relocations kind n p x)

  pub caller_no : {q : ℕ} → locate_in section relocations kind 8 n ≡ bad q → bad q ≡ onward (by_section section relocations kind n p) (λ u. caller_of k m u before)
  unfolding onward
  caller_no e = rw (section_no section relocations kind n p e)

-- a register's rule is the one that the reader gave
pub by_rule : (m : Memory) (cfa : ℕ) (before : List Slot) (reg : ℕ) {x : Rules} (a : AllRules) → x ≡ rules_for reg a → left_by m cfa before reg x.rule ≡ left_by m cfa before reg (a.rules reg)
unfolding rules_for
by_rule m cfa before reg a e = ap (λ (r : Rules). left_by m cfa before reg r.rule) e
