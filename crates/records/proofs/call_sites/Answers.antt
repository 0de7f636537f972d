-- `records::call_sites` meets its contract.
use Rattle.format.proofs.PutLaws.{◌then◌, idle}
use Rattle.records.specs.Sites.{sites_in}
use Rattle.records.proofs.CallSites.{added_none, added_some, added_length}
use Prim.Native.Nat.{ℕ}
use lib.ListN.{length-replicate}
use borrow.Author.Rules.{rules}
use Rattle.records.proofs.call_sites.Goals as goal

pub returns-then-e-eq0 : goal.returns-then-e-eq0
returns-then-e-eq0 c = let h = c.if-e-eq0.true in rw added_none idle

pub fill-a-requires : goal.fill-a-requires
fill-a-requires c = let n = c.if-e-eq0.false in let h = rw added_length at c.requires.1 in rw c.padding.ensures (search rules)

pub put_table-requires : goal.put_table-requires
unfolding sites_in
put_table-requires c = (let n = c.if-e-eq0.false in let h = rw added_length at c.requires.1 in let l = length-replicate {A = ℕ} c.padding.result 0 in rw c.of-of_function.ensures (search rules))

pub returns : goal.returns
unfolding sites_in
returns c = let n = c.if-e-eq0.false in rw added_some ((rw c.padding.ensures at c.fill-a.ensures) then (rw c.of-of_function.ensures at c.put_table.ensures))
