-- The reader's state as far as one register goes: what the code keeps of the rules of all.
use Rattle.std.specs.Prelude.{ℕ, Bool, true, false, not, List, [], ◌∷◌, map, length, ltb, eqb, ℤ, Some, None, Ok, Err}
use Rattle.std.specs.Prelude as code
use Rattle.format.specs.Prelude.{pick, Result, good, bad, onward}
use Rattle.format.specs.declared.Operation.{Operation}
use Rattle.format.specs.declared.Operation.TheVariants.{Nop, Step, Does}
use Rattle.format.specs.declared.Row.{Row}
use Rattle.format.specs.declared.Row.TheVariants.{DefCfa, DefCfaOffset, DefCfaRegister, Offset, Restore, Undefined, RememberState, RestoreState, NegateRaState, SameValue, InRegister}
use Rattle.format.specs.declared.CfaRule.{CfaRule}
use Rattle.format.specs.declared.CfaRule.TheVariants.{Unset, Register}
use Rattle.format.specs.declared.Rule.{Rule}
use Rattle.format.specs.declared.Rule.TheVariants as rule
use Rattle.format.specs.declared.Rules.{Rules}
use Rattle.format.specs.Rules.{State, rules_for}

pub record Run : Type 0 where
  pub current : Rules
  pub stored : List Rules

-- a state of all registers, seen at register q
unfoldable pub at : ℕ → State → Run
at q s = record { current = rules_for q s.current; stored = map (rules_for q) s.stored }

unfoldable pub start : Run
start = record { current = record { cfa = Unset; rule = rule.Unstated; signing = false }; stored = [] }

unfoldable pub set_cfa : CfaRule → Run → Run
set_cfa c s = record { current = record { cfa = c; rule = s.current.rule; signing = s.current.signing }; stored = s.stored }

-- only register q counts
unfoldable pub set_rule : (q reg : ℕ) → Rule → Run → Run
set_rule q reg r s =
    record {
      current = record { cfa = s.current.cfa; rule = pick (eqb q reg) r s.current.rule; signing = s.current.signing };
      stored = s.stored;
    }

-- 69: a CFA rule has a register and an offset
unfoldable pub register_rule : CfaRule → code.Result (ℕ × ℤ) ℕ
register_rule Unset = Err 69
register_rule (Register reg off) = Ok (reg, off)

unfoldable pub change_offset : ℤ → CfaRule → Run → Result Run
change_offset z Unset s = bad 69
change_offset z (Register reg off) s = good (set_cfa (Register reg z) s)

unfoldable pub change_register : ℕ → CfaRule → Run → Result Run
change_register r Unset s = bad 69
change_register r (Register reg off) s = good (set_cfa (Register r off) s)

unfoldable pub remember : Run → Result Run
remember s = pick (ltb (length s.stored) 16) (good (record { current = s.current; stored = s.current ∷ s.stored })) (bad 68)

unfoldable pub recall : List Rules → Run → Result Run
recall [] s = bad 67
recall (k ∷ ks) s = good (record { current = k; stored = ks })

unfoldable pub negated : Run → Run
negated s =
    record { current = record { cfa = s.current.cfa; rule = s.current.rule; signing = not s.current.signing }; stored = s.stored }

-- q's rule after the header, which a header's operations do not have
unfoldable pub initial_of : (header : Bool) → Rule → code.Option Rule
initial_of true r = None
initial_of false r = Some r

-- 67: no initial rule is there to be restored
unfoldable pub restored : (q reg : ℕ) (initial : code.Option Rule) → Run → Result Run
restored q reg None s = bad 67
restored q reg (Some r) s = good (set_rule q reg r s)

-- a row, where `initial` is q's rule after the header
unfoldable pub act : (q : ℕ) (initial : code.Option Rule) → Row → Run → Result Run
act q initial (DefCfa reg z) s = good (set_cfa (Register reg z) s)
act q initial (DefCfaOffset z) s = change_offset z s.current.cfa s
act q initial (DefCfaRegister reg) s = change_register reg s.current.cfa s
act q initial (Offset reg z) s = good (set_rule q reg (rule.Saved z) s)
act q initial (Restore reg) s = restored q reg initial s
act q initial (Undefined reg) s = good (set_rule q reg rule.Undefined s)
act q initial RememberState s = remember s
act q initial RestoreState s = recall s.stored s
act q initial NegateRaState s = good (negated s)
act q initial (SameValue reg) s = good (set_rule q reg rule.SameValue s)
act q initial (InRegister reg other) s = good (set_rule q reg (rule.InRegister other) s)

-- a step is handed on; 66: a header's operations, for which there is no initial rule, have none
unfoldable pub stepped : (n : ℕ) (initial : code.Option Rule) → Run → Result (code.Option ℕ × Run)
stepped n None s = bad 66
stepped n (Some r) s = good (Some n, s)

-- an operation: what holds behind it, and the step that it is
unfoldable pub perform : (q : ℕ) (initial : code.Option Rule) → Operation → Run → Result (code.Option ℕ × Run)
perform q initial Nop s = good (None, s)
perform q initial (Step n) s = stepped n initial s
perform q initial (Does row) s = onward (act q initial row s) λ t. good (None, t)
