-- `records::landing_list::Landings::put_table` meets its contract.
use Rattle.format.proofs.PutLaws.{◌then◌}
use Rattle.records.specs.Sites.{sites_in}
use Rattle.records.proofs.CallSites.{table_bytes}
use borrow.Author.Rules.{rules}
use Rattle.records.proofs.landing_list.Landings.put_table.Goals as goal

pub uleb-d-requires : goal.uleb-d-requires
uleb-d-requires c = rw c.size.ensures (search rules)

pub put-requires : goal.put-requires
put-requires c = let h = rw c.size.ensures at c.uleb-d.ensures in search rules

pub returns : goal.returns
unfolding sites_in
returns c =
    rw table_bytes
    (c.byte-a.ensures then c.byte-b.ensures then c.byte-c.ensures then (rw c.size.ensures at c.uleb-d.ensures) then c.put.ensures)
