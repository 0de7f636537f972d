-- `records::lsda_reloc` meets its contract.
use borrow.Author.Rules.{rules}
use Rattle.format.specs.Lists.{numbers_of}
use Rattle.format.proofs.PutLaws.{idle}
use Rattle.header_keys.proofs.KindMeans.{decides}
use Rattle.records.specs.Fields.{lsda_by, pointed, lsda_in}
use Rattle.records.proofs.lsda_reloc.Goals as goal

pub relocation-requires : goal.relocation-requires
unfolding lsda_in pointed numbers_of
relocation-requires c = let h = rw (decides c.args.f.now.extent c.kind_of.ensures c.in-Personal.is) at c.requires in search rules

pub pointer-requires : goal.pointer-requires
unfolding lsda_in pointed lsda_by numbers_of
pointer-requires c = let h = rw (decides c.args.f.now.extent c.kind_of.ensures c.in-Named.is, c.in-Some.is) at c.requires in search rules

pub returns-in-Plain : goal.returns-in-Plain
unfolding lsda_in pointed numbers_of
returns-in-Plain c = rw (decides c.args.f.now.extent c.kind_of.ensures c.in-Plain.is) idle

pub returns-in-Personal : goal.returns-in-Personal
unfolding lsda_in pointed numbers_of
returns-in-Personal c = rw (decides c.args.f.now.extent c.kind_of.ensures c.in-Personal.is) c.relocation.ensures

pub returns-in-Some : goal.returns-in-Some
unfolding lsda_in pointed lsda_by numbers_of
returns-in-Some c = rw (decides c.args.f.now.extent c.kind_of.ensures c.in-Named.is, c.in-Some.is) c.pointer.ensures

pub returns-in-None : goal.returns-in-None
unfolding lsda_in pointed lsda_by numbers_of
returns-in-None c = rw (decides c.args.f.now.extent c.kind_of.ensures c.in-Named.is, c.in-None.is) idle
