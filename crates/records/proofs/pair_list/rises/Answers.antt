-- `records::pair_list::rises` meets its contract.
use mathlib.Core.Path.{refl, sym, ◌∙◌}
use Prim.Native.Nat.{◌-◌}
use borrow.Author.Rules.{rules}
use borrow.Author.Tests.{tests}
use Rattle.std.proofs.lemmas.Iterator.{YieldsList-from_range}
use Rattle.std.proofs.lemmas.Iterator.Search.{all_from_yields_List}
use Rattle.format.specs.Lists.{pair_stride, count}
use Rattle.records.proofs.PairOrder.{climbs, risen}
use Rattle.records.proofs.pair_list.rises.Goals as goal

pub returns : goal.returns
returns c = λ p.
    let n = count pair_stride c.args.pairs.now in
    risen c.args.pairs.now n
    (sym (all_from_yields_List (climbs c.args.pairs.now) _ _ _ c.all.ensures.ran (YieldsList-from_range _ _ (n - 1) refl refl) (λ i b q k. search (rules, tests))) ∙ p)
