-- `records::eh_relocs` meets its contract.
use lib.ListN.{length-append}
use Rattle.format.proofs.PutLaws.{◌then◌}
use Rattle.records.proofs.FieldRelocs.{eh_numbers, one_length}
use borrow.Author.Rules.{rules}
use Rattle.records.proofs.eh_relocs.Goals as goal

pub relocation-a-requires : goal.relocation-a-requires
relocation-a-requires c = let h = simp (eh_numbers, length-append, one_length) at c.requires in search rules

pub lsda_reloc-b-requires : goal.lsda_reloc-b-requires
lsda_reloc-b-requires c = let h = simp (eh_numbers, length-append, one_length) at c.requires in let k = simp one_length at c.relocation-a.ensures.past in search rules

pub sum_pair-requires : goal.sum_pair-requires
sum_pair-requires c = let h = simp (eh_numbers, length-append, one_length) at c.requires in let k = simp one_length at c.relocation-a.ensures.past in search rules

pub returns : goal.returns
returns c = rw eh_numbers (c.relocation-a.ensures then c.lsda_reloc-b.ensures then c.sum_pair.ensures)
