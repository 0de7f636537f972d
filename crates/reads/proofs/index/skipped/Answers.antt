-- `reads::index::skipped` meets its contract.
use Rattle.std.proofs.Common.{ℕ, ◌*◌, ◌/◌, ◌<◌, ◌≤◌, length, get_or, MatchOption, rules}
use borrow.Author.Tests.{tests}
use Rattle.std.proofs.lemmas.Iterator.{first_from_Range}
use Rattle.reads.proofs.Indexing.{skipped_to}
use Rattle.reads.proofs.index.skipped.Goals as goal
use Rattle.reads.proofs.index.skipped.Goals.{After-find}

-- what `find` found
seen : (c : After-find)
    → let xs = c.args.links.now.relocations.now in
    MatchOption c.find.result ((k : ℕ) → c.args.from ≤ k → k < length xs / 5 → get_or xs (5 * k) 0 < c.args.place)
    (λ i. (c.args.from ≤ i) × (i < length xs / 5) × (c.args.place ≤ get_or xs (5 * i) 0) × ((k : ℕ) → c.args.from ≤ k → k < i → get_or xs (5 * k) 0 < c.args.place))
seen c =
    let xs = c.args.links.now.relocations.now in
    first_from_Range _ _ _ c.find.result (λ k. c.args.place ≤ get_or xs (5 * k) 0) (λ k. get_or xs (5 * k) 0 < c.args.place) c.find.ensures.ran (λ x q k. search (rules, tests)) (λ x q k. search (rules, tests))

pub returns : goal.returns
returns c = rw c.unwrap_or.ensures (skipped_to c.args.links.now.relocations.now c.requires c.find.result (seen (goal.at.returns c).After-find))
