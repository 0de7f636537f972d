-- `records::field_relocs` meets its contract.
use Rattle.format.specs.Prelude.{pick}
use Rattle.records.specs.Fields.{field_relocs}
use Rattle.records.proofs.field_relocs.Goals as goal

pub debug_relocs-requires : goal.debug_relocs-requires
unfolding field_relocs pick
debug_relocs-requires c = rw c.if-f.true at c.requires

pub returns-then-f : goal.returns-then-f
unfolding field_relocs pick
returns-then-f c = rw c.if-f.true c.debug_relocs.ensures

pub eh_relocs-requires : goal.eh_relocs-requires
unfolding field_relocs pick
eh_relocs-requires c = rw c.if-f.false at c.requires

pub returns : goal.returns
unfolding field_relocs pick
returns c = rw c.if-f.false c.eh_relocs.ensures
