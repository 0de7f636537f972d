-- `unwind::SavingFromRule::from` meets its contract.
use mathlib.Core.Path.{refl}
use native.Mathlib.Omega.{arith}
use Rattle.rows.proofs.Signs.{passed}
use Rattle.format.specs.Answers.{rule_numbers}
use Rattle.unwind.proofs.SavingFromRule.from.Goals as goal

pub returns-in-Unstated : goal.returns-in-Unstated
unfolding rule_numbers
returns-in-Unstated c = rw c.in-Unstated.is refl

pub returns-in-Undefined : goal.returns-in-Undefined
unfolding rule_numbers
returns-in-Undefined c = rw c.in-Undefined.is refl

pub returns-in-Saved : goal.returns-in-Saved
unfolding rule_numbers
returns-in-Saved c =
    let e = passed c.in-Saved.z (omega (arith, c.in-Saved.known_told-1-own.given)) in
    rw (c.in-Saved.is, rw e at c.cast_unsigned.ensures) refl

pub returns-in-SameValue : goal.returns-in-SameValue
unfolding rule_numbers
returns-in-SameValue c = rw c.in-SameValue.is refl

pub returns-in-InRegister : goal.returns-in-InRegister
unfolding rule_numbers
returns-in-InRegister c = rw (c.in-InRegister.is, c.from.ensures) refl
