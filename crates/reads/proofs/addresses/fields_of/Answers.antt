-- `reads::addresses::fields_of` meets its contract.
use Rattle.reads.proofs.Addressing.{fields_none, fields_placeless, fields_sizeless, fields_there}
use Rattle.reader.proofs.Recorded.{field_small}
use Rattle.std.proofs.Common.{sym, ◌∙◌, arith}
use Rattle.reads.proofs.addresses.fields_of.Goals as goal

pub returns-in_err-place : goal.returns-in_err-place
returns-in_err-place c = c.from_residual.ensures ∙ fields_none c.args.b.now.bytes.now c.args.b.now.layout.debug c.args.b.now.layout.word (sym c.read_le.ensures ∙ c.in_err-place.was)

pub read_le-requires-2 : goal.read_le-requires-2
read_le-requires-2 c = omega (arith, c.field_size-n.ensures, (field_small c.args.b.now.layout.debug c.args.b.now.layout.word c.args.b.now.layout.is_word).1)

pub returns-in_err-field : goal.returns-in_err-field
returns-in_err-field c =
    let a = c.args in
    c.from_residual-in_err-field.ensures ∙ fields_placeless a.b.now.bytes.now a.b.now.layout.debug a.b.now.layout.word c.args.b.now.layout.is_word (sym c.read_le.ensures ∙ c.in_ok-place.was) c.field_size-n.ensures (sym c.read_le-2.ensures ∙ c.in_err-field.was)

pub read_le-requires-3 : goal.read_le-requires-3
read_le-requires-3 c = omega (arith, c.field_size-n.ensures, (field_small c.args.b.now.layout.debug c.args.b.now.layout.word c.args.b.now.layout.is_word).1)

pub returns-in_err-length : goal.returns-in_err-length
returns-in_err-length c =
    let a = c.args in
    c.from_residual-in_err-length.ensures ∙ fields_sizeless a.b.now.bytes.now a.b.now.layout.debug a.b.now.layout.word c.args.b.now.layout.is_word (sym c.read_le.ensures ∙ c.in_ok-place.was) c.field_size-n.ensures (sym c.read_le-2.ensures ∙ c.in_ok-field.was) (sym c.read_le-3.ensures ∙ c.in_err-length.was)

pub returns : goal.returns
returns c =
    let a = c.args in
    fields_there a.b.now.bytes.now a.b.now.layout.debug a.b.now.layout.word c.args.b.now.layout.is_word (sym c.read_le.ensures ∙ c.in_ok-place.was) c.field_size-n.ensures (sym c.read_le-2.ensures ∙ c.in_ok-field.was) (sym c.read_le-3.ensures ∙ c.in_ok-length.was)
