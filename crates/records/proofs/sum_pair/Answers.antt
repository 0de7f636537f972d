-- `records::sum_pair` meets its contract.
use Rattle.format.specs.Lists.{numbers_of}
use Rattle.format.proofs.PutLaws.{◌then◌, idle}
use Rattle.records.specs.Fields.{labelled, sum_in}
use borrow.Author.Rules.{rules}
use Rattle.records.proofs.sum_pair.Goals as goal

pub returns-in_default : goal.returns-in_default
unfolding sum_in labelled numbers_of
returns-in_default c = rw c.in_default.is idle

pub relocation-a-requires : goal.relocation-a-requires
unfolding sum_in labelled numbers_of
relocation-a-requires c = let h = rw c.in-Some.is at c.requires in search rules

pub relocation-requires : goal.relocation-requires
unfolding sum_in labelled numbers_of
relocation-requires c = let h = rw c.in-Some.is at c.requires in search rules

pub returns : goal.returns
unfolding sum_in labelled numbers_of
returns c = rw c.in-Some.is (c.relocation-a.ensures then c.relocation.ensures)
