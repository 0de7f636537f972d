-- What each operation does (DWARF 5, 6.4.2; DWARF for the Arm 64-bit Architecture, "RA_SIGN_STATE").
use Rattle.std.specs.Prelude.{ℕ, ℤ, Bool, false, not, Ok, Err}
use Rattle.cfi_entries.specs.declared.refusal.Question.TheVariants.{FrameRule}
use Rattle.cfi_operations.specs.declared.operation.Operation.{Operation}
use Rattle.cfi_operations.specs.declared.operation.Operation.TheVariants as op
use Rattle.cfi_rules.specs.declared.rule.CfaRule.{CfaRule}
use Rattle.cfi_rules.specs.declared.rule.CfaRule.TheVariants as cfa
use Rattle.cfi_rules.specs.declared.rule.Rule.TheVariants as rule
use Rattle.cfi_rules.specs.declared.rule.Frame.{Frame}
use Rattle.cfi_rules.specs.Registers.{Run, Action, set_rule, restore, remember, recall}

abbrev pub with_frame : Frame → Run → Run
with_frame f s = record s { frame = f }

abbrev pub with_cfa : CfaRule → Run → Run
with_cfa c s = with_frame (record { cfa = c; signed = s.frame.signed; with_pc = s.frame.with_pc }) s

-- 69: a rule of a register and an offset, to change
abbrev pub with_register : ℕ → CfaRule → Run → Action
with_register reg cfa.Unset s = Err FrameRule
with_register reg (cfa.Register r z) s = Ok (with_cfa (cfa.Register reg z) s)
with_register reg (cfa.Expression b) s = Err FrameRule

abbrev pub with_offset : ℤ → CfaRule → Run → Action
with_offset z cfa.Unset s = Err FrameRule
with_offset z (cfa.Register r y) s = Ok (with_cfa (cfa.Register r z) s)
with_offset z (cfa.Expression b) s = Err FrameRule

-- the other state of signing
abbrev pub with_signing : (pc : Bool) → Run → Run
with_signing pc s = with_frame (record { cfa = s.frame.cfa; signed = not s.frame.signed; with_pc = pc }) s

abbrev pub with_args : ℕ → Run → Run
with_args n s = record s { args = n }

-- steps change no rule
unfoldable pub act : Operation → Run → Action
act op.Nop s = Ok s
act (op.SetLocation a) s = Ok s
act (op.Advance n) s = Ok s
act (op.DefCfa reg z) s = Ok (with_cfa (cfa.Register reg z) s)
act (op.DefCfaRegister reg) s = with_register reg s.frame.cfa s
act (op.DefCfaOffset z) s = with_offset z s.frame.cfa s
act (op.DefCfaExpression b) s = Ok (with_cfa (cfa.Expression b) s)
act (op.Undefined reg) s = set_rule reg rule.Undefined s
act (op.SameValue reg) s = set_rule reg rule.SameValue s
act (op.Offset reg z) s = set_rule reg (rule.Offset z) s
act (op.ValOffset reg z) s = set_rule reg (rule.ValOffset z) s
act (op.Register reg other) s = set_rule reg (rule.Register other) s
act (op.Expression reg b) s = set_rule reg (rule.Expression b) s
act (op.ValExpression reg b) s = set_rule reg (rule.ValExpression b) s
act (op.Restore reg) s = restore reg s
act op.RememberState s = remember s
act op.RestoreState s = recall s
act op.NegateRaState s = Ok (with_signing false s)
act op.NegateRaStateWithPc s = Ok (with_signing (not s.frame.signed) s)
act (op.ArgsSize n) s = Ok (with_args n s)
