-- `walk::holder_of` meets its contract.
use Rattle.std.proofs.Common.{◌≡◌, ℕ, ◌+◌, ◌*◌, ◌/◌, ◌<◌, ◌≤◌, true, false, get_or, length, MatchOption, arith, rules}
use borrow.Author.Tests.{tests}
use Rattle.std.proofs.lemmas.Iterator.{first_from_Range}
use Rattle.walk.specs.Walk.{holds}
use Rattle.walk.proofs.Holders.{placed, holder_found, held_start}
use Rattle.walk.proofs.holder_of.Goals as goal
use Rattle.walk.proofs.holder_of.Goals.{After-find}

-- what `find` found
seen : (c : After-find)
    → let xs = c.args.functions.now in
    MatchOption c.find.result ((k : ℕ) → 0 ≤ k → k < length xs / 2 → holds c.args.a (placed (get_or xs (2 * k) 0) (get_or xs (2 * k + 1) 0)) ≡ false)
    (λ i. (0 ≤ i) × (i < length xs / 2) × (holds c.args.a (placed (get_or xs (2 * i) 0) (get_or xs (2 * i + 1) 0)) ≡ true)
    × ((k : ℕ) → 0 ≤ k → k < i → holds c.args.a (placed (get_or xs (2 * k) 0) (get_or xs (2 * k + 1) 0)) ≡ false))
seen c =
    let xs = c.args.functions.now in
    first_from_Range _ _ _ c.find.result (λ k. holds c.args.a (placed (get_or xs (2 * k) 0) (get_or xs (2 * k + 1) 0)) ≡ true)
    (λ k. holds c.args.a (placed (get_or xs (2 * k) 0) (get_or xs (2 * k + 1) 0)) ≡ false) c.find.ensures.ran (λ x q k. search (rules, tests)) (λ x q k. search (rules, tests))

pub returns-in_err-i : goal.returns-in_err-i
returns-in_err-i c = rw c.from_residual.ensures (rw c.in_err-i.was at (holder_found c.args.functions.now c.args.a c.find.result (seen (goal.at.returns-in_err-i c).After-find)))

pub overflow_mul-result : goal.overflow_mul-result
overflow_mul-result c = let h = rw c.in_ok-i.was at (seen (goal.at.overflow_mul-result c).After-find) in record { fits = omega (arith, h.1) }

pub offset_bounds-functions-i : goal.offset_bounds-functions-i
offset_bounds-functions-i c = let h = rw c.in_ok-i.was at (seen (goal.at.offset_bounds-functions-i c).After-find) in record { fits = omega (arith, h.1) }

pub bounds-functions-i : goal.bounds-functions-i
bounds-functions-i c = let h = rw c.in_ok-i.was at (seen (goal.at.bounds-functions-i c).After-find) in omega (arith, h.1)

pub overflow_sub-result : goal.overflow_sub-result
overflow_sub-result c = let h = rw c.in_ok-i.was at (seen (goal.at.overflow_sub-result c).After-find) in held_start _ _ _ h.2

pub returns : goal.returns
returns c = rw c.in_ok-i.was at (holder_found c.args.functions.now c.args.a c.find.result (seen (goal.at.returns c).After-find))
