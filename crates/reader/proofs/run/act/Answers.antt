-- `reader::run::act` meets its contract.
use mathlib.Core.Path.{sym, ap, ◌∙◌}
use lib.IntN.{pos}
use Rattle.std.proofs.lemmas.Result.{err_from_is_err_and}
use Rattle.reader.proofs.Acting.{no_change, change}
use native.Mathlib.Omega.{arith}
use Rattle.rows.proofs.Signs.{passed}
use Rattle.format.specs.Coded.{numbered}
use Rattle.format.specs.Prelude.{good}
use Rattle.reader.specs.OneRegister.{act}
use Rattle.reader.specs.States.{run_of}
use Rattle.reader.proofs.run.act.Goals as goal

pub returns-in-DefCfa : goal.returns-in-DefCfa
unfolding act run_of
returns-in-DefCfa c = rw c.in-DefCfa.is (ap good (sym (rw (passed c.in-DefCfa.z (omega arith)) at c.set_cfa.ensures)))

pub returns-in_err-reg-in-DefCfaOffset : goal.returns-in_err-reg-in-DefCfaOffset
unfolding act run_of
returns-in_err-reg-in-DefCfaOffset c =
    let p = err_from_is_err_and c.from_residual.result c.from_residual.ensures.1 in
    rw (p.1, p.2, c.in-DefCfaOffset.is) (no_change _ 0 _ _ (sym c.register_rule.ensures ∙ ap numbered c.in_err-reg-in-DefCfaOffset.was)).0

pub returns-in_ok-reg-in-DefCfaOffset : goal.returns-in_ok-reg-in-DefCfaOffset
unfolding act run_of
returns-in_ok-reg-in-DefCfaOffset c =
    rw (c.in-DefCfaOffset.is, rw (passed c.in-DefCfaOffset.z (omega arith)) at c.set_cfa-in-DefCfaOffset.ensures)
    (change _ 0 _ _ (sym c.register_rule.ensures ∙ ap numbered c.in_ok-reg-in-DefCfaOffset.was)).0

pub returns-in_err-z-in-DefCfaRegister : goal.returns-in_err-z-in-DefCfaRegister
unfolding act run_of
returns-in_err-z-in-DefCfaRegister c =
    let p = err_from_is_err_and c.from_residual-in_err-z-in-DefCfaRegister.result c.from_residual-in_err-z-in-DefCfaRegister.ensures.1 in
    rw (p.1, p.2, c.in-DefCfaRegister.is) (no_change (pos 0) _ _ _ (sym c.register_rule-in-DefCfaRegister.ensures ∙ ap numbered c.in_err-z-in-DefCfaRegister.was)).1

pub returns-in_ok-z-in-DefCfaRegister : goal.returns-in_ok-z-in-DefCfaRegister
unfolding act run_of
returns-in_ok-z-in-DefCfaRegister c =
    rw (c.in-DefCfaRegister.is, rw (passed c.in_ok-z-in-DefCfaRegister.z (omega arith)) at c.set_cfa-in-DefCfaRegister.ensures)
    (change (pos 0) _ _ _ (sym c.register_rule-in-DefCfaRegister.ensures ∙ ap numbered c.in_ok-z-in-DefCfaRegister.was)).1

pub returns-in-Offset : goal.returns-in-Offset
unfolding act run_of
returns-in-Offset c = rw c.in-Offset.is (ap good (sym (rw (passed c.in-Offset.z (omega arith)) at c.set_rule.ensures)))

pub returns-in-Restore : goal.returns-in-Restore
unfolding act run_of
returns-in-Restore c = rw c.in-Restore.is c.restore.ensures

pub returns-in-Undefined : goal.returns-in-Undefined
unfolding act run_of
returns-in-Undefined c = rw c.in-Undefined.is (ap good (sym c.set_rule-in-Undefined.ensures))

pub returns-in-RememberState : goal.returns-in-RememberState
unfolding act run_of
returns-in-RememberState c = rw c.in-RememberState.is c.remember.ensures

pub returns-in-RestoreState : goal.returns-in-RestoreState
unfolding act run_of
returns-in-RestoreState c = rw c.in-RestoreState.is c.recall.ensures

pub returns-in-NegateRaState : goal.returns-in-NegateRaState
unfolding act run_of
returns-in-NegateRaState c = rw c.in-NegateRaState.is (ap good (sym c.negate.ensures))

pub returns-in-SameValue : goal.returns-in-SameValue
unfolding act run_of
returns-in-SameValue c = rw c.in-SameValue.is (ap good (sym c.set_rule-in-SameValue.ensures))

pub returns-in-InRegister : goal.returns-in-InRegister
unfolding act run_of
returns-in-InRegister c = rw c.in-InRegister.is (ap good (sym c.set_rule-in-InRegister.ensures))
