-- `dwarf::Lines::whole` meets its contract.
use Rattle.std.proofs.Common.{rules, ◌∙◌, refl, arith}
use Rattle.std.proofs.lemmas.Iterator.{YieldsList-from_range}
use Rattle.std.proofs.lemmas.Iterator.Search.{all_from_yields_List}
use borrow.Author.Tests.{tests}
use Rattle.format.specs.Rows.{row_whole}
use Rattle.format.specs.Lists.{row_at}
use Rattle.dwarf.proofs.Asking.{all_each_range}
use Rattle.dwarf.proofs.Lines.whole.Goals as goal

pub returns : goal.returns
returns c =
    let x = c.args.self.now in
    all_from_yields_List (λ i. row_whole x.word (row_at x.rows.now i).1) _ _ _ c.all.ensures.ran (YieldsList-from_range _ _ x.n refl (omega arith)) (λ i b q k. search (rules, tests))
    ∙ all_each_range (λ r. row_whole x.word r.1) (row_at x.rows.now) x.at x.n
