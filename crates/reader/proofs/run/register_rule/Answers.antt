-- `reader::run::register_rule` meets its contract.
use native.Mathlib.Omega.{arith}
use Rattle.rows.proofs.Signs.{passed}
use Rattle.reader.specs.OneRegister.{register_rule}
use Rattle.reader.proofs.run.register_rule.Goals as goal

pub returns-in-Register : goal.returns-in-Register
unfolding register_rule
returns-in-Register c = rw (c.in-Register.is, passed c.in-Register.z (omega arith))

pub returns-in-Unset : goal.returns-in-Unset
unfolding register_rule
returns-in-Unset c = rw c.in-Unset.is
