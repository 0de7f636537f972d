-- `Function::starts_ok` meets its contract.
use Rattle.std.proofs.Common.{rules, ◌∙◌, refl, ◌-◌}
use Rattle.std.proofs.lemmas.Iterator.{YieldsList-from_range}
use Rattle.std.proofs.lemmas.Iterator.Search.{all_from_yields_List}
use borrow.Author.Tests.{tests}
use Rattle.format.proofs.Asking.{all_in_range}
use Rattle.arm64_function.specs.Own.{start_ok_at}
use Rattle.arm64_function.proofs.Function.starts_ok.Goals as goal

pub returns : goal.returns
returns c =
    all_from_yields_List (start_ok_at c.args.self.now.epilogues.now c.args.self.now.size) _ _ _ c.all.ensures.ran (YieldsList-from_range _ _ (c.args.self.now.parts.end - c.args.self.now.parts.first) refl refl) (λ x b q k. search (rules, tests))
    ∙ all_in_range (start_ok_at c.args.self.now.epilogues.now c.args.self.now.size) c.args.self.now.parts.first (c.args.self.now.parts.end - c.args.self.now.parts.first)
