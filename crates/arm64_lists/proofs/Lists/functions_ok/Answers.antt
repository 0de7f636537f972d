-- `Lists::functions_ok` meets its contract.
use Rattle.std.proofs.Common.{rules, ◌∙◌, refl, arith}
use Rattle.std.proofs.lemmas.Iterator.{YieldsList-from_range}
use Rattle.std.proofs.lemmas.Iterator.Search.{all_from_yields_List}
use borrow.Author.Tests.{tests}
use Rattle.format.proofs.Asking.{all_in_range}
use Rattle.arm64.specs.Writer.{function_ok_at}
use Rattle.arm64_lists.proofs.Lists.functions_ok.Goals as goal

pub returns : goal.returns
returns c =
    all_from_yields_List (function_ok_at c.args.self.now.functions.now c.args.self.now.epilogues.now c.args.self.now.codes.now) _ _ _ c.all.ensures.ran (YieldsList-from_range _ _ c.args.n refl (omega arith)) (λ x b q k. search (rules, tests))
    ∙ all_in_range (function_ok_at c.args.self.now.functions.now c.args.self.now.epilogues.now c.args.self.now.codes.now) 0 c.args.n
