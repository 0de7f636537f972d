-- `lists::map_ok` asks each number of the map.
use Rattle.std.proofs.Common.{take, drop, rules, ◌∙◌}
use Rattle.std.proofs.lemmas.Iterator.{YieldsList-from_slice}
use Rattle.std.proofs.lemmas.Iterator.Search.{all_from_yields_List}
use borrow.Author.Tests.{tests}
use Rattle.lists.proofs.Machines.{is_byte}
use Rattle.lists.proofs.map_ok.Goals as goal
use Rattle.format.proofs.Asking.{all_listed}

pub returns : goal.returns
returns c =
    let map = take 64 (drop 6 c.args.ms.now) in
    all_from_yields_List is_byte _ _ _ c.all.ensures.ran (YieldsList-from_slice map cc) (λ x b q k. search (rules, tests))
    ∙ all_listed is_byte map
