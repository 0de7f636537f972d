-- `records::site` meets its contract.
use borrow.Author.Rules.{rules}
use Rattle.format.specs.CallSites.{site_bytes}
use Rattle.format.proofs.PutLaws.{◌then◌}
use Rattle.records.proofs.CallSites.{site_length}
use Rattle.records.proofs.site.Goals as goal

pub uleb-a-requires : goal.uleb-a-requires
uleb-a-requires c = let h = rw (site_length _) at c.requires in search rules

pub uleb-b-requires : goal.uleb-b-requires
uleb-b-requires c = let h = rw (site_length _) at c.requires in search rules

pub uleb-c-requires : goal.uleb-c-requires
uleb-c-requires c = let h = rw (site_length _) at c.requires in search rules

pub uleb-requires : goal.uleb-requires
uleb-requires c = let h = rw (site_length _) at c.requires in search rules

pub returns : goal.returns
unfolding site_bytes
returns c = c.uleb-a.ensures then c.uleb-b.ensures then c.uleb-c.ensures then c.uleb.ensures
