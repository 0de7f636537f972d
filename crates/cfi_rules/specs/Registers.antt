-- The rules of 128 registers, those that are stored, and the room for them (DWARF 5, 6.4.2.3 and 6.4.2.4).
-- Nothing here knows of a log.
use Rattle.std.specs.Prelude.{ℕ, suc, ◌+◌, ◌-◌, Bool, true, false, ◌&&◌, nat_le, nat_lt, if◌then◌else◌, List, [], ◌∷◌, length, get_or, set, replicate, Result, Ok, Err}
use Rattle.std.specs.Prelude as code
use Rattle.std.proofs.Math.Option.{Option, none, some}
use Rattle.cfi_entries.specs.declared.refusal.Question.{Question}
use Rattle.cfi_entries.specs.declared.refusal.Question.TheVariants.{States, StatesRoom}
use Rattle.cfi_rules.specs.declared.rule.CfaRule.TheVariants.{Unset}
use Rattle.cfi_rules.specs.declared.rule.Rule.{Rule}
use Rattle.cfi_rules.specs.declared.rule.Rule.TheVariants.{Unstated}
use Rattle.cfi_rules.specs.declared.rule.Frame.{Frame}

-- what was stored: the rules, what was said beside them, and how many rules were set since, while they were
-- the last stored
pub record Held : Type 0 where
  pub rules : List Rule
  pub frame : Frame
  pub changes : ℕ

-- the first register that is followed; the rules that hold, and what is said beside them; the rules after the
-- CIE's operations, and whether those are being done; what is stored, the last first; and the size of the
-- arguments
pub record Run : Type 0 where
  pub first : ℕ
  pub rules : List Rule
  pub frame : Frame
  pub initial : List Rule
  pub header : Bool
  pub stored : List Held
  pub args : ℕ

abbrev pub Action : Type 0
Action = Result Run Question

abbrev pub start : ℕ → Run
start first = record {
  first = first;
  rules = replicate 128 Unstated;
  frame = record { cfa = Unset; signed = false; with_pc = false };
  initial = replicate 128 Unstated;
  header = true;
  stored = [];
  args = 0;
}

abbrev pub body_of : Run → Run
body_of s = record s { initial = s.rules; header = false }

-- the room that is taken: one for each state, and one for each change
unfoldable pub total : List Held → ℕ
total [] = 0
total (h ∷ hs) = suc (h.changes + total hs)

-- one change more since the last was stored
unfoldable pub changed : List Held → List Held
changed [] = []
changed (h ∷ hs) = record { rules = h.rules; frame = h.frame; changes = suc h.changes } ∷ hs

unfoldable pub with_rule : ℕ → Rule → Run → Run
with_rule at r s = record s { rules = set s.rules at r; stored = changed s.stored }

-- 68: room for a change
unfoldable pub set_at : ℕ → Rule → Run → Action
set_at at r s = if nat_lt (total s.stored) 400 then Ok (with_rule at r s) else Err StatesRoom

-- where a register stands among the 128 that are followed
abbrev pub seat : (first reg : ℕ) → code.Option ℕ
seat first reg =
    if nat_lt reg first then code.None
    else if nat_lt (reg - first) 128 then code.Some (reg - first) else code.None

-- a register that is not followed has no rule here
abbrev pub set_seat : code.Option ℕ → Rule → Run → Action
set_seat (code.Some at) r s = set_at at r s
set_seat code.None r s = Ok s

unfoldable pub set_rule : ℕ → Rule → Run → Action
set_rule reg r s = set_seat (seat s.first reg) r s

abbrev pub restore_seat : code.Option ℕ → Run → Action
restore_seat (code.Some at) s = set_at at (get_or s.initial at Unstated) s
restore_seat code.None s = Ok s

-- 67: no restoring in a CIE
unfoldable pub restore : ℕ → Run → Action
restore reg s = if s.header then Err States else restore_seat (seat s.first reg) s

unfoldable pub with_held : Run → Run
with_held s = record s { stored = record { rules = s.rules; frame = s.frame; changes = 0 } ∷ s.stored }

-- 68: at most 16 stored, and room for one
unfoldable pub remember : Run → Action
remember s =
    if nat_lt (length s.stored) 16
    then (if nat_lt (total s.stored) 400 then Ok (with_held s) else Err StatesRoom)
    else Err StatesRoom

-- the rules stored last, what was said beside them, and what is stored below them
abbrev pub Back : Type 0
Back = Option (List Rule × Frame × List Held)

unfoldable pub back : List Held → Back
back [] = none
back (h ∷ hs) = some (h.rules, h.frame, hs)

-- 67: something is stored
unfoldable pub recalled : Back → Run → Action
recalled none s = Err States
recalled (some p) s = Ok (record s { rules = p.0; frame = p.1; stored = p.2 })

unfoldable pub recall : Run → Action
recall s = recalled (back s.stored) s
