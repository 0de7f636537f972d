-- Lines stored: those that are left go behind those that stand in the lent list.
use mathlib.Core.Path.{◌≡◌, refl, sym, ap, subst, ◌∙◌}
use Prim.Native.Nat.{ℕ, ◌+◌, ◌*◌, ◌/◌, ◌≤◌, ◌<◌}
use native.Mathlib.Omega.{arith}
use mathlib.Core.Bool.{false}
use mathlib.Core.List.{List, [], ◌∷◌}
use lib.ListN.{length, take, drop, set, length-append}
use lib.Seq.{set_comm, set-set, take-append_seam}
use Rattle.format.specs.Prelude.{good}
use Rattle.format.specs.Put.{put}
use Rattle.format.specs.Answers.{cfa_numbers, rule_numbers, reading_numbers, marked_numbers}
use Rattle.format.specs.declared.CfaRule.{CfaRule}
use Rattle.format.specs.declared.CfaRule.TheVariants.{Unset, Register}
use Rattle.format.specs.declared.Rule.{Rule}
use Rattle.format.specs.declared.Rule.TheVariants as rule
use Rattle.format.specs.declared.Rules.{Rules}
use Rattle.std.specs.Prelude.{Ok}
use Rattle.format.specs.Rules.{State, rules_for}
use Rattle.format.proofs.Choice.{either}
use Rattle.format.proofs.Wrote.{Wrote}
use Rattle.format.proofs.PutLaws.{kept, put-append}
use Rattle.unwind.specs.Entries.{read_numbers}
use Rattle.unwind.specs.declared.Numbers.{Numbers}
use Rattle.listing.specs.Lines.{Lines, line, last, ended, line_numbers, numbers_of, count_of, ending_of, listed_as, list_after, Lists}

-- ---- one line

line_long : (at : ℕ) (c : CfaRule) (r : Rule) (a : Rules) → a.cfa ≡ c → a.rule ≡ r → length (line_numbers at a) ≡ 7
unfolding line_numbers cfa_numbers rule_numbers
line_long at Unset rule.Unstated a e f = rw (e, f) refl
line_long at Unset rule.Undefined a e f = rw (e, f) refl
line_long at Unset (rule.Saved z) a e f = rw (e, f) refl
line_long at Unset rule.SameValue a e f = rw (e, f) refl
line_long at Unset (rule.InRegister reg) a e f = rw (e, f) refl
line_long at (Register r z) rule.Unstated a e f = rw (e, f) refl
line_long at (Register r z) rule.Undefined a e f = rw (e, f) refl
line_long at (Register r z) (rule.Saved y) a e f = rw (e, f) refl
line_long at (Register r z) rule.SameValue a e f = rw (e, f) refl
line_long at (Register r z) (rule.InRegister reg) a e f = rw (e, f) refl

pub line_length : (at : ℕ) (a : Rules) → length (line_numbers at a) ≡ 7
line_length at a = line_long at a.cfa a.rule a refl refl

-- a line has no mark
line_is : (at : ℕ) (n : Numbers) (a : Rules) → read_numbers n ≡ marked_numbers (Ok a) false
    → at ∷ n.frame ∷ n.frame_register ∷ n.frame_offset ∷ n.rule ∷ n.rule_value ∷ n.signing ∷ [] ≡ line_numbers at a
unfolding reading_numbers marked_numbers line_numbers
line_is at n a e =
    let front : take 7 (marked_numbers (Ok a) false) ≡ reading_numbers (Ok a) =
    subst (λ (k : ℕ). take k (marked_numbers (Ok a) false) ≡ reading_numbers (Ok a)) (line_length 0 a) (take-append_seam (reading_numbers (Ok a)) _) in
    ap (λ (l : List ℕ). at ∷ drop 1 (take 7 l)) e ∙ ap (λ (l : List ℕ). at ∷ drop 1 l) front

-- the numbers of a reading, stored behind an offset
pub line_wrote : {xs ys : List ℕ} {p r : ℕ} (at : ℕ) (n : Numbers) (a : Rules) → read_numbers n ≡ marked_numbers (Ok a) false
    → Wrote xs ys p r (at ∷ n.frame ∷ n.frame_register ∷ n.frame_offset ∷ n.rule ∷ n.rule_value ∷ n.signing ∷ [])
    → Wrote xs ys p r (line_numbers at a)
line_wrote at n a e w = rw (sym (line_is at n a e)) w

-- ---- stores that a later run of stores covers

covered_one : (xs : List ℕ) (p v k : ℕ) (bs : List ℕ) → k ≤ p → p < k + length bs → put (set xs p v) k bs ≡ put xs k bs
unfolding put
covered_one xs p v k [] a b = absurd (omega arith)
covered_one xs p v k (c ∷ bs) a b =
    either p k
    (λ h. let e : p ≡ k = omega arith in rw (e, set-set))
    (λ h. rw (set_comm xs p k v c (λ (e : p ≡ k). omega arith)) (covered_one (set xs k c) p v (k + 1) bs (omega arith) (omega arith)))

covered : (xs : List ℕ) (p : ℕ) (us bs : List ℕ) → p + length us ≤ length bs → put (put xs p us) 0 bs ≡ put xs 0 bs
unfolding put
covered xs p [] bs h = refl
covered xs p (u ∷ us) bs h = covered (set xs p u) (p + 1) us bs (omega arith) ∙ covered_one xs p u 0 bs (omega arith) (omega arith)

-- ---- the lines that are left

pub numbers_length : (q : ℕ) (ls : Lines) → length (numbers_of q ls) ≡ 7 * count_of ls
unfolding numbers_of count_of
numbers_length q (line at s rest) =
    omega (arith, length-append (line_numbers at (rules_for q s.current)) (numbers_of q rest), line_length at (rules_for q s.current), numbers_length q rest)
numbers_length q (last at s) = line_length at (rules_for q s.current)
numbers_length q (ended at n) = refl

-- of the lines `whole` those of `rest` are left, and go from i on; whatever was stored since `old` is a part of them

pub record LinesStored (q : ℕ) (whole rest : Lines) (old new : List ℕ) (i : ℕ) : Type 0 where
  pub long : length new ≡ length old
  pub stored : put new i (numbers_of q rest) ≡ put old 0 (numbers_of q whole)
  pub counted : i + 7 * count_of rest ≡ 7 * count_of whole
  pub ends : ending_of rest ≡ ending_of whole
  pub same : put new 0 (numbers_of q whole) ≡ put old 0 (numbers_of q whole)

pub stored_none : (q : ℕ) (whole : Lines) (old : List ℕ) → LinesStored q whole whole old old 0
stored_none q whole old = record { long = refl; stored = refl; counted = omega arith; ends = refl; same = refl }

-- from here on, and with what was stored until then
pub stored_since : {q : ℕ} {whole rest : Lines} {old new : List ℕ} {i : ℕ} → LinesStored q whole rest old new i → LinesStored q whole rest new new i
stored_since t = record { long = refl; stored = t.stored ∙ sym t.same; counted = t.counted; ends = t.ends; same = refl }

pub stored_joined : {q : ℕ} {whole rest more : Lines} {old mid new : List ℕ} {i j : ℕ} → LinesStored q whole rest old mid i → LinesStored q whole more mid new j
    → LinesStored q whole more old new j
stored_joined a b =
    record { long = b.long ∙ a.long; stored = b.stored ∙ a.same; counted = b.counted; ends = b.ends; same = b.same ∙ a.same }

module _ {q : ℕ} {whole : Lines} {old new : List ℕ} {i : ℕ} where
  -- a line is stored, and the rest is left
  pub stored_line : {at : ℕ} {s : State} {rest : Lines} {new' : List ℕ} {j : ℕ} → LinesStored q whole (line at s rest) old new i
      → Wrote new new' i j (line_numbers at (rules_for q s.current)) → LinesStored q whole rest old new' j
  unfolding numbers_of count_of ending_of
  stored_line {at} {s} {rest} t w =
      let n = line_length at (rules_for q s.current) in
      record {
        long = kept w ∙ t.long;
        stored = rw (w.stored, w.past, ← put-append new i (line_numbers at (rules_for q s.current)) (numbers_of q rest)) t.stored;
        counted = omega (arith, n, w.past, t.counted);
        ends = t.ends;
        same =
            rw w.stored
            (covered new i (line_numbers at (rules_for q s.current)) (numbers_of q whole) (omega (arith, n, t.counted, numbers_length q whole)) ∙ t.same);
      }

  -- the last one is stored
  pub stored_last : {at : ℕ} {s : State} {new' : List ℕ} {j : ℕ} → LinesStored q whole (last at s) old new i
      → Wrote new new' i j (line_numbers at (rules_for q s.current)) → Lists q (good whole) (record { number = 0; lines = j / 7; ending = 0; from = 0 }) old new'
  unfolding numbers_of count_of ending_of listed_as list_after
  stored_last {at} {s} {j = j} t w =
      let n = line_length at (rules_for q s.current) in
      let d : j / 7 ≡ count_of whole = omega (arith, n, w.past, t.counted) in
      record { answered = rw (d, ← t.ends) refl; stored = w.stored ∙ t.stored }

  -- a question ends them
  pub stored_ended : {at n : ℕ} → LinesStored q whole (ended at n) old new i → Lists q (good whole) (record { number = 0; lines = i / 7; ending = n; from = at }) old new
  unfolding numbers_of count_of ending_of listed_as list_after put
  stored_ended t =
      let d : i / 7 ≡ count_of whole = omega (arith, t.counted) in
      record { answered = rw (d, ← t.ends) refl; stored = t.stored }
