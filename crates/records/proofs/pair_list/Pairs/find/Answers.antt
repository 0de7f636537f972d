-- `records::pair_list::Pairs::find` meets its contract.
use mathlib.Core.Path.{◌≡◌}
use mathlib.Core.Bool.{true, false}
use mathlib.Core.Option.{none, some}
use native.Mathlib.Omega.{arith}
use borrow.Author.Rules.{rules}
use borrow.Author.Tests.{tests}
use Prim.Native.Nat.{ℕ, ◌≤◌, ◌<◌}
use Rattle.std.specs.Prelude.{MatchOption}
use Rattle.std.proofs.lemmas.Iterator.{first_from_Range}
use Rattle.format.specs.Lists.{pair_at}
use Rattle.records.specs.Labels.{is_for, found_pair, pair_between}
use Rattle.records.proofs.PairOrder.{sought}
use Rattle.records.proofs.pair_list.Pairs.find.Goals as goal
use Rattle.records.proofs.pair_list.Pairs.find.Goals.{After-find}

-- what `find` found
seen : (c : After-find)
    → MatchOption c.find.result ((k : ℕ) → 0 ≤ k → k < c.count.result → is_for c.args.from c.args.to (pair_at c.args.self.now.part.now k) ≡ false)
    (λ i. (0 ≤ i) × (i < c.count.result) × (is_for c.args.from c.args.to (pair_at c.args.self.now.part.now i) ≡ true) × ((k : ℕ) → 0 ≤ k → k < i → is_for c.args.from c.args.to (pair_at c.args.self.now.part.now k) ≡ false))
seen c =
    first_from_Range _ _ _ c.find.result (λ k. is_for c.args.from c.args.to (pair_at c.args.self.now.part.now k) ≡ true) (λ k. is_for c.args.from c.args.to (pair_at c.args.self.now.part.now k) ≡ false)
    c.find.ensures.ran (λ x q k. search (rules, tests)) (λ x q k. search (rules, tests))

first : (c : After-find) → MatchOption c.find.result (none ≡ pair_between c.args.from c.args.to c.args.self.now.part.now 0 c.count.result)
    (λ i. some (pair_at c.args.self.now.part.now i) ≡ pair_between c.args.from c.args.to c.args.self.now.part.now 0 c.count.result)
first c = sought c.args.from c.args.to c.args.self.now.part.now c.count.result c.find.result (seen c)

pub returns-in_err-i : goal.returns-in_err-i
unfolding found_pair pair_between
returns-in_err-i c = rw c.from_residual.ensures (rw (c.in_err-i.was, c.count.ensures) at (first (goal.at.returns-in_err-i c).After-find))

pub pair_at-requires : goal.pair_at-requires
pair_at-requires c = let h = rw c.in_ok-i.was at (seen (goal.at.pair_at-requires c).After-find) in omega (arith, h.1, c.count.ensures)

pub returns : goal.returns
unfolding found_pair pair_between pair_at
returns c = rw c.pair_at.ensures (rw (c.in_ok-i.was, c.count.ensures) at (first (goal.at.returns c).After-find))
