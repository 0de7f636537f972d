-- `records::fields` meets its contract.
use Rattle.records.specs.Fields.{fields_in}
use Rattle.records.proofs.FieldLaws.{debug_length, eh_length}
use borrow.Author.Rules.{rules}
use Rattle.records.proofs.fields.Goals as goal

pub debug_record-requires : goal.debug_record-requires
debug_record-requires c = (let h = rw (c.if-f.true, debug_length) at c.requires in search rules)

pub returns-then-f : goal.returns-then-f
unfolding fields_in
returns-then-f c = rw c.if-f.true c.debug_record.ensures

pub eh_record-requires : goal.eh_record-requires
eh_record-requires c = (let h = rw (c.if-f.false, eh_length) at c.requires in search rules)

pub returns : goal.returns
returns c = rw c.if-f.false c.eh_record.ensures
