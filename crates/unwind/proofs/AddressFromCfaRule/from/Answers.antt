-- `unwind::AddressFromCfaRule::from` meets its contract.
use mathlib.Core.Path.{refl}
use native.Mathlib.Omega.{arith}
use Rattle.rows.proofs.Signs.{passed}
use Rattle.format.specs.Answers.{cfa_numbers}
use Rattle.unwind.proofs.AddressFromCfaRule.from.Goals as goal

pub returns-in-Unset : goal.returns-in-Unset
unfolding cfa_numbers
returns-in-Unset c = rw c.in-Unset.is refl

pub returns-in-Register : goal.returns-in-Register
unfolding cfa_numbers
returns-in-Register c =
    let e = passed c.in-Register.z (omega (arith, c.in-Register.known_told-1-own.given)) in
    rw (c.in-Register.is, c.from.ensures, rw e at c.cast_unsigned.ensures) refl
