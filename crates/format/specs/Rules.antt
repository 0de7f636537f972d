-- What a function's rows say (document 01, "Rules and row check"; DWARF 5, 6.4.2). Nothing here knows of bytes.
use Rattle.std.specs.Prelude.{ℕ, Bool, false, not, List, [], ◌∷◌, length, leb, ltb, eqb, ℤ}
use Rattle.std.proofs.Math.Option.{Option, none, some}
use Rattle.format.specs.Prelude.{pick, Result, good, bad}
use Rattle.format.specs.declared.Machine.{Machine}
use Rattle.format.specs.declared.Row.{Row}
use Rattle.format.specs.declared.Row.TheVariants.{DefCfa, DefCfaOffset, DefCfaRegister, Offset, Restore, Undefined, RememberState, RestoreState, NegateRaState, SameValue, InRegister}
use Rattle.format.specs.declared.CfaRule.{CfaRule}
use Rattle.format.specs.declared.CfaRule.TheVariants.{Unset, Register}
use Rattle.format.specs.declared.Rule.{Rule}
use Rattle.format.specs.declared.Rule.TheVariants as rule
use Rattle.format.specs.declared.Rules.{Rules}
use Rattle.format.specs.Coded.{Reading}
use Rattle.std.specs.Prelude.{Ok, Err}
use Rattle.format.specs.Rows.{RowAt}
use Rattle.format.specs.Lists.{Function}
use Rattle.format.specs.Headers.{leading, others}

-- ---- the rules at p, with a rule for every register

-- the CFA rule, each register's rule and the signing state
pub record AllRules : Type 0 where
  pub cfa : CfaRule
  pub rules : ℕ → Rule
  pub signing : Bool

-- the rules that hold, and those that RememberState stored, the last first
pub record State : Type 0 where
  pub current : AllRules
  pub stored : List AllRules

-- no CFA rule, every register unstated, signing off, nothing stored
unfoldable pub blank : State
blank = record { current = record { cfa = Unset; rules = λ q. rule.Unstated; signing = false }; stored = [] }

unfoldable pub with_cfa : CfaRule → State → State
with_cfa c s = record { current = record { cfa = c; rules = s.current.rules; signing = s.current.signing }; stored = s.stored }

unfoldable pub with_rule : ℕ → Rule → State → State
with_rule reg r s =
    record {
      current = record { cfa = s.current.cfa; rules = λ q. pick (eqb q reg) r (s.current.rules q); signing = s.current.signing };
      stored = s.stored;
    }

-- a CFA rule with another offset, or register; without one there is nothing to change
unfoldable pub reoffset : ℤ → CfaRule → CfaRule
reoffset z Unset = Unset
reoffset z (Register reg off) = Register reg z

unfoldable pub reregister : ℕ → CfaRule → CfaRule
reregister r Unset = Unset
reregister r (Register reg off) = Register r off

-- the rules stored last come back, and the signing state with them: it is a register's rule (DWARF for the Arm 64-bit Architecture, RA_SIGN_STATE)
unfoldable pub restored : List AllRules → State → State
restored [] s = s
restored (k ∷ ks) s = record { current = k; stored = ks }

unfoldable pub negated : State → State
negated s =
    record { current = record { cfa = s.current.cfa; rules = s.current.rules; signing = not s.current.signing }; stored = s.stored }

-- a row, where `initial` are the rules after the leading rows
unfoldable pub apply : (initial : ℕ → Rule) → Row → State → State
apply initial (DefCfa reg z) s = with_cfa (Register reg z) s
apply initial (DefCfaOffset z) s = with_cfa (reoffset z s.current.cfa) s
apply initial (DefCfaRegister reg) s = with_cfa (reregister reg s.current.cfa) s
apply initial (Offset reg z) s = with_rule reg (rule.Saved z) s
apply initial (Restore reg) s = with_rule reg (initial reg) s
apply initial (Undefined reg) s = with_rule reg rule.Undefined s
apply initial RememberState s = record { current = s.current; stored = s.current ∷ s.stored }
apply initial RestoreState s = restored s.stored s
apply initial NegateRaState s = negated s
apply initial (SameValue reg) s = with_rule reg rule.SameValue s
apply initial (InRegister reg other) s = with_rule reg (rule.InRegister other) s

unfoldable pub apply_rows : (initial : ℕ → Rule) → List Row → State → State
apply_rows initial [] s = s
apply_rows initial (r ∷ rs) s = apply_rows initial rs (apply initial r s)

-- the rows with an offset of at most p
unfoldable pub up_to : ℕ → List RowAt → List Row
up_to p [] = []
up_to p (x ∷ xs) = pick (leb x.0 p) (x.1 ∷ up_to p xs) (up_to p xs)

-- the state after the leading rows
unfoldable pub entry_state : Machine → Function → State
entry_state m f = apply_rows blank.current.rules (leading m f) blank

-- the leading rows, then the others with an offset of at most p
unfoldable pub rules_at : Machine → Function → ℕ → State
rules_at m f p = let s : State = entry_state m f in apply_rows s.current.rules (up_to p (others f.rows)) s

-- what they say of one register
unfoldable pub rules_for : ℕ → AllRules → Rules
rules_for q a = record { cfa = a.cfa; rule = a.rules q; signing = a.signing }

unfoldable pub seen : ℕ → State → Reading
seen q s = Ok (rules_for q s.current)

-- ---- what the reader refuses

-- 69: a CFA rule to change
unfoldable pub without_cfa : CfaRule → Option ℕ
without_cfa Unset = some 69
without_cfa (Register reg z) = none

-- 67: stored rules for a RestoreState
unfoldable pub without_stored : List AllRules → Option ℕ
without_stored [] = some 67
without_stored (k ∷ ks) = none

-- the question that refuses a row: 69 and 67 of these; 67: no Restore in a header; 68: at most 16 stored
unfoldable pub refusal : (header : Bool) → Row → State → Option ℕ
refusal header (DefCfa reg z) s = none
refusal header (DefCfaOffset z) s = without_cfa s.current.cfa
refusal header (DefCfaRegister reg) s = without_cfa s.current.cfa
refusal header (Offset reg z) s = none
refusal header (Restore reg) s = pick header (some 67) none
refusal header (Undefined reg) s = none
refusal header RememberState s = pick (ltb (length s.stored) 16) none (some 68)
refusal header RestoreState s = without_stored s.stored
refusal header NegateRaState s = none
refusal header (SameValue reg) s = none
refusal header (InRegister reg other) s = none

unfoldable pub unless_refused : Option ℕ → State → Result State
unless_refused none s = good s
unless_refused (some n) s = bad n

-- a row as the reader meets it
unfoldable pub act : (header : Bool) (initial : ℕ → Rule) → Row → State → Result State
act header initial r s = unless_refused (refusal header r s) (apply initial r s)

-- what the reader answers of register q
unfoldable pub answer : ℕ → Result State → Reading
answer q (good s) = seen q s
answer q (bad n) = Err n
