-- The numbers that are stored say at every offset what the lines hold there.
use mathlib.Core.Path.{◌≡◌, refl, sym, ap, ◌∙◌}
use Prim.Native.Nat.{ℕ, zero, suc, ◌+◌, ◌-◌, ◌*◌, ◌^◌, ◌≤◌, ◌<◌}
use native.Mathlib.Omega.{arith}
use mathlib.Core.Bool.{Bool, true, false, ◌||◌}
use mathlib.Core.Option.{Option, none, some}
use mathlib.Core.List.{List, [], ◌∷◌, ◌++◌, append_assoc}
use lib.ListN.{length, get_or, take, drop, take-append-drop, length-take}
use lib.Seq.{take_at, drop_at}
use lib.Dec.{leb, ltb, eqb}
use borrow.Author.Tests.{ne_eqb, le-ltb, lt-ltb}
use Rattle.format.specs.Prelude.{pick, Read, Result, good, bad}
use Rattle.format.specs.Put.{put}
use Rattle.format.specs.Answers.{cfa_numbers, rule_numbers, bit, reading_numbers}
use Rattle.std.specs.Prelude.{Ok, Err}
use Rattle.format.specs.declared.CfaRule.{CfaRule}
use Rattle.format.specs.declared.CfaRule.TheVariants.{Unset, Register}
use Rattle.format.specs.declared.Row.{Row}
use Rattle.format.specs.declared.Row.TheVariants.{DefCfa, DefCfaOffset, DefCfaRegister, Offset, Restore, Undefined, RememberState, RestoreState, NegateRaState, SameValue, InRegister}
use Rattle.format.specs.declared.Rule.{Rule}
use Rattle.format.specs.declared.Rules.{Rules}
use Rattle.format.specs.declared.Operation.{Operation}
use Rattle.format.specs.declared.Operation.TheVariants.{Nop, Step, Does}
use Rattle.format.specs.Rows.{read_operation}
use Rattle.format.specs.Rules.{State, AllRules, blank, rules_for, without_cfa, without_stored, refusal, unless_refused, act, answer, seen, apply}
use Rattle.format.proofs.Choice.{if-le, if-gt, if-eq, if-ne, either}
use Rattle.format.proofs.PutLaws.{front_is}
use Rattle.reader.specs.Spans.{part}
use Rattle.reads.specs.declared.Located.{Located}
use Rattle.reader.specs.Finds.{in_section}
use Rattle.reads.specs.Places.{reader_places, rules_of}
use Rattle.listing.specs.declared.Listed.{Listed}
use Rattle.listing.specs.Lines.{Lines, line, last, ended, highest, when_read, when_acted, stepping, doing, lines_f, record_lines, lines_of, line_numbers, numbers_of, count_of, ending_of, along, listed_as, list_after, Lists}
use Rattle.listing.specs.AtOffset.{says_behind, says_from, says, Says}
use Rattle.listing.proofs.StoredLines.{line_length, numbers_length}
use Rattle.listing.proofs.Asking.{lines_at}
use Rattle.listing.proofs.AtOffset.{start, holding, lines_start, along_is, along_reads}

-- ---- no row is refused by the number 0

abbrev pub NotZero : Option ℕ → Type 0
NotZero none = Unit {0}
NotZero (some n) = n ≡ 0 → ⊥

not_zero_pick : (b : Bool) (n : ℕ) → (n ≡ 0 → ⊥) → NotZero (pick b (some n) none)
unfolding pick
not_zero_pick true n h = h
not_zero_pick false n h = tt

not_zero_else : (b : Bool) (n : ℕ) → (n ≡ 0 → ⊥) → NotZero (pick b none (some n))
unfolding pick
not_zero_else true n h = tt
not_zero_else false n h = h

cfa_not_zero : (c : CfaRule) → NotZero (without_cfa c)
unfolding without_cfa
cfa_not_zero Unset = λ e. omega arith
cfa_not_zero (Register reg z) = tt

stored_not_zero : (ks : List AllRules) → NotZero (without_stored ks)
unfolding without_stored
stored_not_zero [] = λ e. omega arith
stored_not_zero (k ∷ ks) = tt

pub refusal_not_zero : (header : Bool) (r : Row) (s : State) → NotZero (refusal header r s)
unfolding refusal
refusal_not_zero header (DefCfa reg z) s = tt
refusal_not_zero header (DefCfaOffset z) s = cfa_not_zero s.current.cfa
refusal_not_zero header (DefCfaRegister reg) s = cfa_not_zero s.current.cfa
refusal_not_zero header (Offset reg z) s = tt
refusal_not_zero header (Restore reg) s = not_zero_pick header 67 (λ e. omega arith)
refusal_not_zero header (Undefined reg) s = tt
refusal_not_zero header RememberState s = not_zero_else (ltb (length s.stored) 16) 68 (λ e. omega arith)
refusal_not_zero header RestoreState s = stored_not_zero s.stored
refusal_not_zero header NegateRaState s = tt
refusal_not_zero header (SameValue reg) s = tt
refusal_not_zero header (InRegister reg other) s = tt

-- ---- how many lines there are, and that a question ends them by its number

abbrev Ending : Lines → Type 0
Ending (line at s rest) = Ending rest
Ending (last at s) = Unit {0}
Ending (ended at n) = n ≡ 0 → ⊥

record Sound (m : ℕ) (ls : Lines) : Type 0 where
  counted : count_of ls ≤ m
  ends : Ending ls

sound_ended : (m at n : ℕ) → (n ≡ 0 → ⊥) → Sound m (ended at n)
unfolding count_of
sound_ended m at n h = record { counted = omega arith; ends = h }

sound_last : (m at : ℕ) (s : State) → Sound (suc m) (last at s)
unfolding count_of
sound_last m at s = record { counted = omega arith; ends = tt }

sound_line : {m : ℕ} (at : ℕ) (s : State) {ls : Lines} → Sound m ls → Sound (suc m) (line at s ls)
unfolding count_of
sound_line at s h = record { counted = omega (arith, h.counted); ends = h.ends }

sound_more : {m : ℕ} {ls : Lines} → Sound m ls → Sound (suc m) ls
sound_more h = record { counted = omega (arith, h.counted); ends = h.ends }

sound_read : (m at : ℕ) (r : Read Operation) (k : Operation → List ℕ → Lines) → ((op : Operation) (bs : List ℕ) → Sound m (k op bs)) → Sound m (when_read at r k)
unfolding when_read
sound_read m at none k h = sound_ended m at 66 (λ e. omega arith)
sound_read m at (some x) k h = h x.0 x.1

sound_refused : (m at : ℕ) (o : Option ℕ) (s : State) (k : State → Lines) → NotZero o → ((t : State) → Sound m (k t)) → Sound m (when_acted at (unless_refused o s) k)
unfolding when_acted unless_refused
sound_refused m at none s k z h = h s
sound_refused m at (some n) s k z h = sound_ended m at n z

sound_acted : (m at : ℕ) (header : Bool) (initial : ℕ → Rule) (row : Row) (s : State) (k : State → Lines) → ((t : State) → Sound m (k t))
    → Sound m (when_acted at (act header initial row s) k)
unfolding act
sound_acted m at header initial row s k h = sound_refused m at (refusal header row s) (apply initial row s) k (refusal_not_zero header row s) h

sound_pick : {m : ℕ} (b : Bool) {x y : Lines} → Sound m x → Sound m y → Sound m (pick b x y)
unfolding pick
sound_pick true h k = h
sound_pick false h k = k

module _ (word : ℕ) (initial : ℕ → Rule) where
  sound_does : (f at : ℕ) (s : State) (r : List ℕ) → ((m : ℕ) (t : State) → Sound (suc f) (lines_f false word initial last f m t r)) → (op : Operation)
      → Sound (suc (suc f)) (doing false initial op at s λ m t. lines_f false word initial last f m t r)
  unfolding doing stepping pick
  sound_does f at s r h Nop = sound_more (h at s)
  sound_does f at s r h (Step n) =
      sound_pick (eqb n 0) (sound_more (h at s)) (sound_pick (leb (at + n) highest) (sound_line at s (h (at + n) s)) (sound_last (suc f) at s))
  sound_does f at s r h (Does row) = sound_more (sound_acted (suc f) at false initial row s _ (h at))

  -- an operation of a record gives one line at most
  sound_record : (f at : ℕ) (s : State) (bs : List ℕ) → Sound (suc f) (lines_f false word initial last f at s bs)
  unfolding lines_f
  sound_record zero at s bs = sound_last 0 at s
  sound_record (suc f) at s [] = sound_last (suc f) at s
  sound_record (suc f) at s (b ∷ bs) =
      sound_read (suc (suc f)) at (read_operation word (b ∷ bs)) _ λ op r. sound_does f at s r (λ m t. sound_record f m t r) op

  module _ (m : ℕ) (k : ℕ → State → Lines) (after : (at : ℕ) (s : State) → Sound m (k at s)) where
    sound_does_first : (f at : ℕ) (s : State) (r : List ℕ) → ((at' : ℕ) (t : State) → Sound m (lines_f true word initial k f at' t r)) → (op : Operation)
        → Sound m (doing true initial op at s λ at' t. lines_f true word initial k f at' t r)
    unfolding doing stepping pick
    sound_does_first f at s r h Nop = h at s
    sound_does_first f at s r h (Step n) = sound_ended m at 66 (λ e. omega arith)
    sound_does_first f at s r h (Does row) = sound_acted m at true initial row s _ (h at)

    -- one of a header gives none
    sound_header : (f at : ℕ) (s : State) (bs : List ℕ) → Sound m (lines_f true word initial k f at s bs)
    unfolding lines_f
    sound_header zero at s bs = after at s
    sound_header (suc f) at s [] = after at s
    sound_header (suc f) at s (b ∷ bs) =
        sound_read m at (read_operation word (b ∷ bs)) _ λ op r. sound_does_first f at s r (λ at' t. sound_header f at' t r) op

sound_lines : (word : ℕ) (h r : List ℕ) → Sound (suc (length r)) (lines_of word h r)
unfolding lines_of record_lines
sound_lines word h r =
    sound_header word blank.current.rules (suc (length r)) (record_lines word r) (λ at s. sound_record word s.current.rules (length r) at s r) (length h) 0 blank h

-- ---- what the numbers say

-- a line's numbers behind its offset
behind_offset : (at : ℕ) (a : Rules) (ns : List ℕ) → 0 ∷ take 6 (drop 1 (line_numbers at a ++ ns)) ≡ reading_numbers (Ok a)
unfolding line_numbers reading_numbers
behind_offset at a ns =
    let x : List ℕ = cfa_numbers a.cfa ++ (rule_numbers a.rule ++ (bit a.signing ∷ [])) in
    let n : length x ≡ 6 = omega (arith, line_length at a) in
    ap (λ (l : List ℕ). 0 ∷ l) (take_at x ns 6 n)

module _ (q p : ℕ) (r : Listed) where
  -- a line that starts at p or before it
  passed_line : (n at : ℕ) (a : Rules) (before ns : List ℕ) → at ≤ p
      → says_from p r (suc n) before (line_numbers at a ++ ns) ≡ says_from p r n (reading_numbers (Ok a)) ns
  unfolding says_from line_numbers
  passed_line n at a before ns h =
      if-le at p _ before h
      ∙ ap (λ (x : List ℕ). says_from p r n x (drop 7 (line_numbers at a ++ ns))) (behind_offset at a ns)
      ∙ ap (says_from p r n (reading_numbers (Ok a))) (drop_at (line_numbers at a) ns 7 (line_length at a))

  -- one that starts behind it
  later_line : (n at : ℕ) (a : Rules) (before ns : List ℕ) → p < at → says_from p r (suc n) before (line_numbers at a ++ ns) ≡ before
  unfolding says_from line_numbers
  later_line n at a before ns h = if-gt at p _ before h

  -- the question that ended them, from its offset on, and none
  later_end : (at n : ℕ) (before tail : List ℕ) → p < at → r.ending ≡ n → r.from ≡ at → (n ≡ 0 → ⊥) → says_from p r 0 before tail ≡ before
  unfolding says_from says_behind pick
  later_end at n before tail h e f z = rw (e, f, ne_eqb n 0 z, lt-ltb p at h) refl

  ended_by : (at n : ℕ) (before tail : List ℕ) → at ≤ p → r.ending ≡ n → r.from ≡ at → (n ≡ 0 → ⊥) → says_from p r 0 before tail ≡ reading_numbers (Err n)
  unfolding says_from says_behind pick
  ended_by at n before tail h e f z = rw (e, f, ne_eqb n 0 z, le-ltb p at h) refl

  unended : (before tail : List ℕ) → r.ending ≡ 0 → says_from p r 0 before tail ≡ before
  unfolding says_from says_behind pick
  unended before tail e = rw e refl

  -- lines that start behind p change nothing
  later : (ls : Lines) (before tail : List ℕ) → p < start ls → r.ending ≡ (ending_of ls).0 → r.from ≡ (ending_of ls).1 → Ending ls
      → says_from p r (count_of ls) before (numbers_of q ls ++ tail) ≡ before
  unfolding start count_of numbers_of ending_of
  later (line at s rest) before tail h e f z =
      ap (says_from p r (suc (count_of rest)) before) (append_assoc (line_numbers at (rules_for q s.current)) (numbers_of q rest) tail)
      ∙ later_line (count_of rest) at (rules_for q s.current) before (numbers_of q rest ++ tail) h
  later (last at s) before tail h e f z = later_line 0 at (rules_for q s.current) before tail h
  later (ended at n) before tail h e f z = later_end at n before tail h e f z

  said : (ls : Lines) (before tail : List ℕ) → start ls ≤ p → r.ending ≡ (ending_of ls).0 → r.from ≡ (ending_of ls).1 → Ending ls
      → says_from p r (count_of ls) before (numbers_of q ls ++ tail) ≡ reading_numbers (answer q (holding p ls))
  unfolding start holding count_of numbers_of ending_of answer seen
  said (line at s rest) before tail h e f z =
      let a : Rules = rules_for q s.current in
      ap (says_from p r (suc (count_of rest)) before) (append_assoc (line_numbers at a) (numbers_of q rest) tail)
      ∙ passed_line (count_of rest) at a before (numbers_of q rest ++ tail) h
      ∙ either (start rest) p
      (λ k. said rest (reading_numbers (Ok a)) tail k e f z ∙ ap (λ (x : Result State). reading_numbers (answer q x)) (sym (if-le (start rest) p (holding p rest) (good s) k)))
      (λ k. later rest (reading_numbers (Ok a)) tail k e f z ∙ ap (λ (x : Result State). reading_numbers (answer q x)) (sym (if-gt (start rest) p (holding p rest) (good s) k)))
  said (last at s) before tail h e f z = passed_line 0 at (rules_for q s.current) before tail h ∙ unended (reading_numbers (Ok (rules_for q s.current))) tail e
  said (ended at n) before tail h e f z = ended_by at n before tail h e f z

-- ---- the whole

inner : (ls : Lines) (a b : Bool) → pick a (pick b (good ls) (bad 54)) (bad 64) ≡ bad 0 → ⊥
unfolding pick
inner ls true true e = let z : ◌≡◌ {A = ℕ} 0 1 = cc in omega arith
inner ls true false e = let z : ◌≡◌ {A = ℕ} 54 0 = cc in omega arith
inner ls false b e = let z : ◌≡◌ {A = ℕ} 64 0 = cc in omega arith

not_zero : (s : List ℕ) (l : Located) (room : ℕ) → along s l room ≡ bad 0 → ⊥
unfolding along
not_zero s l room e =
    either l.number 0
    (λ h. let z : l.number ≡ 0 = omega arith in absurd (inner (lines_at s l) (in_section s (reader_places l)) (leb (7 * (l.record_end - l.record + 1)) room) (sym (if-eq l.number 0 _ (bad l.number) z) ∙ e)))
    (λ h. let k : ◌≡◌ {A = Result Lines} (bad l.number) (bad 0) = sym (if-ne l.number 0 _ (bad l.number) (λ z. omega arith)) ∙ e in let z : l.number ≡ 0 = cc in absurd (omega arith))

part_short : (s : List ℕ) (u v : ℕ) → length (part s u v) ≤ v - u
part_short s u v = simp length-take (omega arith)

module _ (s : List ℕ) (l : Located) (q : ℕ) (r : Listed) (old new : List ℕ) where
  by_lines : (ls : Lines) → along s l (length old) ≡ good ls → r ≡ listed_as (good ls) → new ≡ put old 0 (numbers_of q ls) → Says s l q r new
  unfolding says listed_as
  by_lines ls e a stored = λ zero p below small.
      let is = along_is s l (length old) ls e in
      let ns : List ℕ = numbers_of q ls in
      let sound : Sound (suc (length (part s l.record l.record_end))) ls = rw (← is.0) (sound_lines l.word (part s l.header l.header_end) (part s l.record l.record_end)) in
      let first : start ls ≡ 0 = rw (← is.0) (lines_start l.word (part s l.header l.header_end) (part s l.record l.record_end)) in
      let room : length ns ≤ length old = omega (arith, numbers_length q ls, sound.counted, part_short s l.record l.record_end, is.1) in
      let split : new ≡ ns ++ drop (length ns) new = sym (take-append-drop (length ns) new) ∙ ap (λ (x : List ℕ). x ++ drop (length ns) new) (rw stored (front_is old ns room)) in
      ap (λ (n : ℕ). says_from p r n [] new) (ap (λ (x : Listed). x.lines) a)
      ∙ ap (says_from p r (count_of ls) []) split
      ∙ said q p r ls [] (drop (length ns) new) (omega (arith, first)) (ap (λ (x : Listed). x.ending) a) (ap (λ (x : Listed). x.from) a) sound.ends
      ∙ ap reading_numbers (sym (along_reads s l (length old) ls q p e below (omega arith)))

  by_answer : (a : Result Lines) → along s l (length old) ≡ a → r ≡ listed_as a → new ≡ list_after q a old → Says s l q r new
  unfolding list_after listed_as
  by_answer (good ls) e answered stored = by_lines ls e answered stored
  by_answer (bad n) e answered stored = λ zero p below small.
      let z : n ≡ 0 = cc in
      absurd (not_zero s l (length old) (e ∙ ap (λ (m : ℕ). bad m) z))

  -- what is listed is what is read
  pub listed_says : Lists q (along s l (length old)) r old new → Says s l q r new
  listed_says x = by_answer (along s l (length old)) refl x.answered x.stored
