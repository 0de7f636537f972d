-- `walked::Marks::mark` meets its contract.
use native.Mathlib.Omega.{arith}
use borrow.Author.Rules.{rules}
use borrow.Author.Tests.{ne_eqb}
use Rattle.walked.proofs.Marking.{mark_set}
use Rattle.walked.proofs.Marks.mark.Goals as goal

pub returns-then-reg-lt128 : goal.returns-then-reg-lt128
returns-then-reg-lt128 c = mark_set c.args.self.now.named c.args.reg (search rules)

pub returns-else-reg-lt128 : goal.returns-else-reg-lt128
returns-else-reg-lt128 c = λ q b e. (e, ne_eqb q c.args.reg (λ d. omega arith))
