-- `walk::with_stack` meets its contract.
use mathlib.Core.Path.{◌≡◌}
use native.Mathlib.Omega.{arith}
use lib.ListN.{length}
use borrow.Author.Rules.{rules}
use Rattle.walk.proofs.Files.{slots_set, slots_out}
use Rattle.walk.proofs.with_stack.Goals as goal

pub returns-then-reg-lt128 : goal.returns-then-reg-lt128
returns-then-reg-lt128 c = slots_set _ _ _

pub returns-else-reg-lt128 : goal.returns-else-reg-lt128
returns-else-reg-lt128 c = let l : length c.args.registers ≡ 128 = search rules in slots_out c.args.registers c.args.reg _ (omega (arith, c.if-reg-lt128.false))
