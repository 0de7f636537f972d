-- `Lists::functions_ok` asks its test at each record of a range.
use Rattle.std.proofs.Common.{rules, ◌∙◌, refl, arith}
use Rattle.std.proofs.lemmas.Iterator.{YieldsList-from_range}
use Rattle.std.proofs.lemmas.Iterator.Search.{all_from_yields_List}
use borrow.Author.Tests.{tests}
use Rattle.lists.specs.Given.{function_of}
use Rattle.format.proofs.Asking.{all_in_range}
use Rattle.lists.proofs.Lists.functions_ok.Goals as goal

pub returns : goal.returns
returns c =
    let a = c.args in
    all_from_yields_List (function_of a.self.now) _ _ _ c.all.ensures.ran (YieldsList-from_range _ _ a.n refl (omega arith)) (λ x b q k. search (rules, tests))
    ∙ all_in_range (function_of a.self.now) 0 a.n
