-- `dwarf::pairs_differ` meets its contract.
use Rattle.std.proofs.Common.{rules, ◌∙◌, refl, arith, not, eqb}
use Rattle.std.proofs.lemmas.Iterator.{YieldsList-from_range}
use Rattle.std.proofs.lemmas.Iterator.Search.{all_from_yields_List}
use borrow.Author.Tests.{tests}
use Rattle.format.specs.Lists.{pair_at}
use Rattle.dwarf.proofs.Asking.{all_each_range}
use Rattle.dwarf.proofs.pairs_differ.Goals as goal

pub returns : goal.returns
returns c =
    all_from_yields_List (λ i. not (eqb (pair_at c.args.x.now.lists.pairs.now i).place1 (pair_at c.args.x.now.lists.pairs.now i).place2)) _ _ _ c.all.ensures.ran (YieldsList-from_range _ _ c.args.l.now.pairs refl (omega arith)) (λ i b q k. search (rules, tests))
    ∙ all_each_range (λ p. not (eqb p.place1 p.place2)) (pair_at c.args.x.now.lists.pairs.now) c.args.l.now.pairs_at c.args.l.now.pairs
