-- What is stored, from the log: a change noted, a mark set, and both taken back.
use Rattle.std.proofs.Common.{◌≡◌, refl, sym, ap, ◌∙◌, ℕ, suc, ◌+◌, ◌<◌, ◌≤◌, arith, List, [], ◌∷◌, ◌++◌, reverse, length, get_or, set, Ok, Err}
use Rattle.std.proofs.lemmas.List.{reverse-append, length_push, set-set, set-get_or}
use Rattle.std.proofs.Math.Option.{none, some}
use Rattle.cfi_rules.specs.declared.rule.Rule.{Rule}
use Rattle.cfi_rules.specs.declared.rule.Rule.TheVariants.{Unstated}
use Rattle.cfi_rules.specs.declared.rule.Noted.{Noted}
use Rattle.cfi_rules.specs.declared.rule.Noted.TheVariants.{Mark, Was}
use Rattle.cfi_entries.specs.declared.refusal.Question.TheVariants.{States, StatesRoom}
use Rattle.cfi_rules.specs.declared.rule.Frame.{Frame}
use Rattle.cfi_rules.specs.Registers.{Held, Run, Back, total, changed, back, set_at, with_rule, remember, with_held, recalled, recall}
use Rattle.cfi_rules.specs.Log.{stored_of}
use Rattle.std.proofs.lemmas.Bool.Decides.{nat_tests}

-- ---- one change more

pub changed-length : (hs : List Held) → length (changed hs) ≡ length hs
unfolding changed
changed-length [] = refl
changed-length (h ∷ hs) = refl

pub changed-back : (hs : List Held) → back (changed hs) ≡ back hs
unfolding changed back
changed-back [] = refl
changed-back (h ∷ hs) = refl

pub changed-total : (hs : List Held) → 0 < length hs → total (changed hs) ≡ suc (total hs)
unfolding changed total
changed-total [] l = absurd (omega arith)
changed-total (h ∷ hs) l = omega arith

total-mark : (rules : List Rule) (frame : Frame) (hs : List Held) → total (record { rules = rules; frame = frame; changes = 0 } ∷ hs) ≡ suc (total hs)
unfolding total
total-mark rules frame hs = omega arith

-- where one change more fills the room by one, something is stored
pub changed-filled : (hs : List Held) (n : ℕ) → total (changed hs) ≡ suc n → total hs ≡ n
unfolding changed total
changed-filled [] n e = absurd (omega arith)
changed-filled (h ∷ hs) n e = omega arith

-- ---- what is stored

pub none_back : (hs : List Held) → back hs ≡ none → length hs ≡ 0
unfolding back
none_back [] e = refl
none_back (h ∷ hs) e = absurd (let f : ◌≡◌ {A = Back} (some (h.rules, h.frame, hs)) none = e in cc)

pub some_back : (hs : List Held) {rules : List Rule} {frame : Frame} {rest : List Held} → back hs ≡ some (rules, frame, rest) → length hs ≡ suc (length rest)
unfolding back
some_back [] {rules} {frame} {rest} e = absurd (let f : ◌≡◌ {A = Back} none (some (rules, frame, rest)) = e in cc)
some_back (h ∷ hs) {rules} {frame} {rest} e =
    let f : ◌≡◌ {A = List Rule × Frame × List Held} (h.rules, h.frame, hs) (rules, frame, rest) = cc in
    ap (λ (p : List Rule × Frame × List Held). suc (length p.2)) f

no_room_taken : (hs : List Held) → length hs ≡ 0 → total hs ≡ 0
unfolding total
no_room_taken [] e = refl
no_room_taken (h ∷ hs) e = absurd (omega arith)

no_items : {A : Type 0} (xs : List A) → length xs ≡ 0 → xs ≡ []
no_items [] e = refl
no_items (x ∷ xs) e = absurd (omega arith)

-- with nothing stored the log is empty
pub unlogged : (hs : List Held) (es : List Noted) → length hs ≡ 0 → total hs ≡ length es → es ≡ []
unlogged hs es l e = no_items es (sym e ∙ no_room_taken hs l)

pub from_nothing : (rules : List Rule) → stored_of rules (reverse []) ≡ []
unfolding stored_of
from_nothing rules = refl

-- and then it means nothing beside other rules too
module _ (rules other : List Rule) (es : List Noted) (z : length (stored_of rules (reverse es)) ≡ 0) (filled : total (stored_of rules (reverse es)) ≡ length es) where
  same_nothing : stored_of other (reverse es) ≡ stored_of rules (reverse es)
  same_nothing = rw (unlogged _ es z filled) (from_nothing other ∙ sym (from_nothing rules))

  pub still_counted : length (stored_of other (reverse es)) ≡ 0
  still_counted = ap length same_nothing ∙ z

  pub still_filled : total (stored_of other (reverse es)) ≡ length es
  still_filled = ap total same_nothing ∙ filled

-- ---- a change noted, and a mark set

pub noted : (rules : List Rule) (es new : List Noted) (reg : ℕ) (was r : Rule) → was ≡ get_or rules reg Unstated → new ≡ es ++ (Was reg was ∷ [])
    → stored_of (set rules reg r) (reverse new) ≡ changed (stored_of rules (reverse es))
unfolding stored_of
noted rules es new reg was r w e =
    let back_again : set (set rules reg r) reg was ≡ rules = set-set rules reg r was ∙ ap (set rules reg) w ∙ set-get_or rules reg Unstated in
    rw (e, reverse-append, back_again)

pub marked : (rules : List Rule) (frame : Frame) (es new : List Noted) → new ≡ es ++ (Mark frame ∷ [])
    → stored_of rules (reverse new) ≡ record { rules = rules; frame = frame; changes = 0 } ∷ stored_of rules (reverse es)
unfolding stored_of
marked rules frame es new e = rw (e, reverse-append)

-- ---- taken back

module _ (rules : List Rule) (es new : List Noted) (filled : total (stored_of rules (reverse es)) ≡ length es) where
  pub mark_taken : (frame : Frame) → es ≡ new ++ (Mark frame ∷ [])
      → (back (stored_of rules (reverse es)) ≡ some (rules, frame, stored_of rules (reverse new))) × (total (stored_of rules (reverse new)) ≡ length new)
  unfolding back
  mark_taken frame e =
      let m = marked rules frame new es e in
      let t : suc (total (stored_of rules (reverse new))) ≡ length new + 1 = sym (total-mark rules frame _) ∙ sym (ap total m) ∙ filled ∙ ap length e ∙ length_push new (Mark frame) in
      (ap back m, omega arith)

  pub change_taken : (reg : ℕ) (r : Rule) → es ≡ new ++ (Was reg r ∷ [])
      → (back (stored_of (set rules reg r) (reverse new)) ≡ back (stored_of rules (reverse es)))
      × (total (stored_of (set rules reg r) (reverse new)) ≡ length new)
  unfolding stored_of
  change_taken reg r e =
      let m : stored_of rules (reverse es) ≡ changed (stored_of (set rules reg r) (reverse new)) = rw (e, reverse-append) in
      let t : total (changed (stored_of (set rules reg r) (reverse new))) ≡ suc (length new) =
      sym (ap total m) ∙ filled ∙ ap length e ∙ length_push new (Was reg r) ∙ omega arith in
      (sym (changed-back _) ∙ sym (ap back m), changed-filled _ _ t)

-- where no entry is left, no mark was there
pub none_taken : (rules : List Rule) (es : List Noted) → (0 < length es → ⊥) → (back (stored_of rules (reverse es)) ≡ none) × (es ≡ [])
unfolding back
none_taken rules es n =
    let e = no_items es (omega (arith, n)) in
    (rw (e, from_nothing rules), e)

pub emptied : (rules : List Rule) (es : List Noted) → es ≡ [] → (length (stored_of rules (reverse es)) ≡ 0) × (total (stored_of rules (reverse es)) ≡ length es)
unfolding total
emptied rules es e = rw (e, from_nothing rules) (refl, refl)

-- ---- the steps, on a run whose stored states are those of the log

module _ (s : Run) (es : List Noted) (stored : s.stored ≡ stored_of s.rules (reverse es)) where
  module _ (filled : total (stored_of s.rules (reverse es)) ≡ length es) where
    taken : total s.stored ≡ length es
    taken = ap total stored ∙ filled

    pub no_room : (at : ℕ) (r : Rule) → length es ≡ 400 → set_at at r s ≡ Err StatesRoom
    unfolding set_at
    no_room at r f = let t : 400 ≤ total s.stored = omega (arith, taken) in grind (arith, nat_tests)

    set_in_room : (at : ℕ) (r : Rule) → length es < 400 → set_at at r s ≡ Ok (with_rule at r s)
    unfolding set_at
    set_in_room at r f = let t : total s.stored < 400 = omega (arith, taken) in grind (arith, nat_tests)

    pub set_unstored : (at : ℕ) (r : Rule) → length (stored_of s.rules (reverse es)) ≡ 0
        → set_at at r s ≡ Ok (record s { rules = set s.rules at r; stored = stored_of (set s.rules at r) (reverse es) })
    unfolding with_rule changed
    set_unstored at r z =
        let e = unlogged _ es z filled in
        let l : length es < 400 = omega (arith, ap length e) in
        set_in_room at r l ∙ rw (stored, e, from_nothing s.rules, from_nothing (set s.rules at r))

    pub set_stored : (new : List Noted) (at : ℕ) (was r : Rule) → length es < 400 → was ≡ get_or s.rules at Unstated → new ≡ es ++ (Was at was ∷ [])
        → set_at at r s ≡ Ok (record s { rules = set s.rules at r; stored = stored_of (set s.rules at r) (reverse new) })
    unfolding with_rule
    set_stored new at was r f w e = set_in_room at r f ∙ rw (stored, noted s.rules es new at was r w e)

    pub too_many : 16 ≤ length (stored_of s.rules (reverse es)) → remember s ≡ Err StatesRoom
    unfolding remember
    too_many l = let t : 16 ≤ length s.stored = omega (arith, ap length stored) in grind (arith, nat_tests)

    pub no_room_to_remember : length (stored_of s.rules (reverse es)) < 16 → length es ≡ 400 → remember s ≡ Err StatesRoom
    unfolding remember
    no_room_to_remember l f =
        let t : length s.stored < 16 = omega (arith, ap length stored) in
        let k : 400 ≤ total s.stored = omega (arith, taken) in
        grind (arith, nat_tests)

    remember_in_room : length (stored_of s.rules (reverse es)) < 16 → length es < 400 → remember s ≡ Ok (with_held s)
    unfolding remember
    remember_in_room l f =
        let t : length s.stored < 16 = omega (arith, ap length stored) in
        let k : total s.stored < 400 = omega (arith, taken) in
        grind (arith, nat_tests)

    pub remembered : (new : List Noted) → length (stored_of s.rules (reverse es)) < 16 → length es < 400 → new ≡ es ++ (Mark s.frame ∷ [])
        → remember s ≡ Ok (record s { stored = stored_of s.rules (reverse new) })
    unfolding with_held
    remembered new l f e = remember_in_room l f ∙ rw (stored, marked s.rules s.frame es new e)

  pub nothing_stored : back (stored_of s.rules (reverse es)) ≡ none → recall s ≡ Err States
  unfolding recall recalled
  nothing_stored e = rw (stored, e)

  pub recalled_as : (rules' : List Rule) (frame : Frame) (new : List Noted)
      → back (stored_of s.rules (reverse es)) ≡ some (rules', frame, stored_of rules' (reverse new))
      → recall s ≡ Ok (record s { rules = rules'; frame = frame; stored = stored_of rules' (reverse new) })
  unfolding recall recalled
  recalled_as rules' frame new e = rw (stored, e)

-- ---- the counts that the code keeps

module _ (rules : List Rule) (es new : List Noted) where
  pub mark_counted : (frame : Frame) → new ≡ es ++ (Mark frame ∷ []) → length (stored_of rules (reverse new)) ≡ length (stored_of rules (reverse es)) + 1
  mark_counted frame e = ap length (marked rules frame es new e) ∙ omega arith

  pub mark_filled : (frame : Frame) → new ≡ es ++ (Mark frame ∷ []) → total (stored_of rules (reverse es)) ≡ length es → total (stored_of rules (reverse new)) ≡ length new
  mark_filled frame e f = ap total (marked rules frame es new e) ∙ total-mark rules frame _ ∙ ap suc f ∙ omega (arith, ap length e, length_push es (Mark frame))

  module _ (reg : ℕ) (was r : Rule) (w : was ≡ get_or rules reg Unstated) (e : new ≡ es ++ (Was reg was ∷ [])) where
    pub change_counted : length (stored_of (set rules reg r) (reverse new)) ≡ length (stored_of rules (reverse es))
    change_counted = ap length (noted rules es new reg was r w e) ∙ changed-length _

    pub change_filled : 0 < length (stored_of rules (reverse es)) → total (stored_of rules (reverse es)) ≡ length es
        → total (stored_of (set rules reg r) (reverse new)) ≡ length new
    change_filled l f =
        ap total (noted rules es new reg was r w e) ∙ changed-total _ l ∙ ap suc f ∙ omega (arith, ap length e, length_push es (Was reg was))
