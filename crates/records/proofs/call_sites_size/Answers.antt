-- `records::call_sites_size` meets its contract.
use native.Mathlib.Omega.{arith}
use Rattle.format.proofs.EntryBack.{padding_small}
use Rattle.headers.proofs.Lengths.{uleb_most}
use Rattle.records.specs.Sites.{sites_in}
use Rattle.records.proofs.CallSites.{sites_most, added_none, added_length}
use borrow.Author.Rules.{rules}
use Rattle.records.proofs.call_sites_size.Goals as goal

pub returns-then-e-eq0 : goal.returns-then-e-eq0
returns-then-e-eq0 c = let h = c.if-e-eq0.true in rw added_none

pub overflow_add-result : goal.overflow_add-result
overflow_add-result c = omega (arith, padding_small 4 c.args.at (omega arith), c.padding.ensures)

pub overflow_add-result-2 : goal.overflow_add-result-2
overflow_add-result-2 c = omega (arith, padding_small 4 c.args.at (omega arith), c.padding.ensures, uleb_most c.size-n.result)

pub overflow_add-result-3 : goal.overflow_add-result-3
unfolding sites_in
overflow_add-result-3 c = let s = rw c.of-of_function.ensures at c.size-n.ensures in omega (arith, padding_small 4 c.args.at (omega arith), c.padding.ensures, uleb_most c.size-n.result, sites_most c.args.landings.now c.args.e.now.landings_at c.args.e.now.landings)

pub returns : goal.returns
unfolding sites_in
returns c = let n = c.if-e-eq0.false in let s = rw c.of-of_function.ensures at c.size-n.ensures in rw (added_length, ← s) (search rules)
