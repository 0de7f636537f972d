-- `arm64_lists::add` meets its contract.
use Rattle.std.proofs.Common.{rules, arith, ◌∙◌}
use borrow.Author.Tests.{tests}
use Rattle.format.specs.Prelude.{pick}
use Rattle.arm64_lists.specs.Sums.{up_to}
use Rattle.arm64_lists.proofs.Totals.{up_high}
use Rattle.arm64_lists.proofs.add.Goals as goal

pub returns-in_err-total : goal.returns-in_err-total
returns-in_err-total c = c.from_residual.ensures ∙ up_high _ (omega (arith, c.in_err-total.ensures))

pub returns : goal.returns
unfolding up_to pick
returns c = search (tests, rules)
