-- `Lists::ok` meets its contract.
use mathlib.Core.Path.{sym, ap, ◌∙◌}
use Rattle.std.specs.Option.{is_some}
use native.Mathlib.Omega.{arith}
use borrow.Author.Tests.{le-leb, lt-leb}
use mathlib.Core.Bool.{and-true, and-false}
use Rattle.arm64_lists.proofs.Totals.{ranges, up_is}
use Rattle.arm64.specs.Writer.{lists_ok}
use Rattle.arm64_lists.proofs.Lists.ok.Goals as goal

pub returns-then-n-gt-MOST_FUNCTIONS : goal.returns-then-n-gt-MOST_FUNCTIONS
unfolding lists_ok
returns-then-n-gt-MOST_FUNCTIONS c = simp (lt-leb _ _ c.if-n-gt-MOST_FUNCTIONS.true)

pub returns-then-not-sum_ok : goal.returns-then-not-sum_ok
unfolding lists_ok
returns-then-not-sum_ok c = simp (le-leb _ _ c.if-n-gt-MOST_FUNCTIONS.false, sym c.sum_ok.ensures ∙ c.if-not-sum_ok.true)

pub returns-then-not-functions_ok : goal.returns-then-not-functions_ok
unfolding lists_ok
returns-then-not-functions_ok c = simp (sym c.functions_ok.ensures ∙ c.if-not-functions_ok.true, and-false)

pub codes_sum-requires : goal.codes_sum-requires
codes_sum-requires c = (omega arith, ranges c.args.self.now.functions.now c.args.self.now.epilogues.now c.args.self.now.codes.now _ (sym c.functions_ok.ensures ∙ c.if-not-functions_ok.false))

pub returns : goal.returns
unfolding lists_ok
returns c = simp (le-leb _ _ c.if-n-gt-MOST_FUNCTIONS.false, sym c.sum_ok.ensures ∙ c.if-not-sum_ok.false, sym c.functions_ok.ensures ∙ c.if-not-functions_ok.false, and-true) (c.is_some.ensures ∙ ap is_some c.codes_sum.ensures ∙ up_is _)
