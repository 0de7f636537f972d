-- `Function::runs_fit` meets its contract.
use Rattle.std.proofs.Common.{rules, ◌∙◌, refl, ◌-◌}
use Rattle.std.proofs.lemmas.Iterator.{YieldsList-from_range}
use Rattle.std.proofs.lemmas.Iterator.Search.{all_from_yields_List}
use borrow.Author.Tests.{tests}
use Rattle.format.proofs.Asking.{all_in_range}
use Rattle.arm64_function.specs.Own.{fits_at}
use Rattle.arm64_function.proofs.Function.runs_fit.Goals as goal

pub returns : goal.returns
unfolding fits_at
returns c =
    all_from_yields_List (fits_at c.args.self.now.epilogues.now c.args.self.now.codes.now) _ _ _ c.all.ensures.ran (YieldsList-from_range _ _ (c.args.self.now.parts.end - c.args.self.now.parts.first) refl refl) (λ x b q k. search (rules, tests))
    ∙ all_in_range (fits_at c.args.self.now.epilogues.now c.args.self.now.codes.now) c.args.self.now.parts.first (c.args.self.now.parts.end - c.args.self.now.parts.first)
