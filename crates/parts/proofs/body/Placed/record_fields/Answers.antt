-- `parts::body::Placed::record_fields` meets its contract.
use mathlib.Core.Path.{refl, sym, ◌∙◌}
use native.Mathlib.Omega.{arith}
use Rattle.parts.specs.Records.{record_numbers}
use Rattle.reader.proofs.Recorded.{field_small}
use Rattle.parts.proofs.Recorded.{parts_none, parts_placeless, parts_sizeless, rest_inside, parts_rest}
use Rattle.parts.proofs.body.Placed.record_fields.Goals as goal

pub returns-in_default : goal.returns-in_default
unfolding record_numbers
returns-in_default c = rw (parts_none c.args.self.now.body.bytes.now c.args.self.now.body.layout.debug c.args.self.now.body.layout.word c.args.pointer (sym c.read_le.ensures ∙ c.in_default.is)) refl

pub read_le-requires-2 : goal.read_le-requires-2
read_le-requires-2 c = omega (arith, c.field_size-n.ensures, (field_small c.args.self.now.body.layout.debug c.args.self.now.body.layout.word c.args.self.now.body.layout.is_word).1)

pub returns-in_default-read_le : goal.returns-in_default-read_le
unfolding record_numbers
returns-in_default-read_le c = rw (parts_placeless c.args.self.now.body.bytes.now c.args.self.now.body.layout.debug c.args.self.now.body.layout.word c.args.pointer c.args.self.now.body.layout.is_word (sym c.read_le.ensures ∙ c.in-Some.is) c.field_size-n.ensures (sym c.read_le-2.ensures ∙ c.in_default-read_le.is)) refl

pub read_le-requires-3 : goal.read_le-requires-3
read_le-requires-3 c = omega (arith, c.field_size-n.ensures, (field_small c.args.self.now.body.layout.debug c.args.self.now.body.layout.word c.args.self.now.body.layout.is_word).1)

pub returns-in_default-read_le-2 : goal.returns-in_default-read_le-2
unfolding record_numbers
returns-in_default-read_le-2 c = rw (parts_sizeless c.args.self.now.body.bytes.now c.args.self.now.body.layout.debug c.args.self.now.body.layout.word c.args.pointer c.args.self.now.body.layout.is_word (sym c.read_le.ensures ∙ c.in-Some.is) c.field_size-n.ensures (sym c.read_le-2.ensures ∙ c.in-Some-read_le.is) (sym c.read_le-3.ensures ∙ c.in_default-read_le-2.is)) refl

pub record_rest-requires : goal.record_rest-requires
record_rest-requires c = rest_inside c.args.self.now.body.bytes.now c.args.self.now.body.layout.debug c.args.self.now.body.layout.word c.args.pointer c.args.self.now.body.layout.is_word (sym c.read_le.ensures ∙ c.in-Some.is) c.field_size-n.ensures (sym c.read_le-2.ensures ∙ c.in-Some-read_le.is) (sym c.read_le-3.ensures ∙ c.in-Some-read_le-2.is)

pub returns : goal.returns
returns c = rw (parts_rest c.args.self.now.body.bytes.now c.args.self.now.body.layout.debug c.args.self.now.body.layout.word c.args.pointer c.args.self.now.body.layout.is_word (sym c.read_le.ensures ∙ c.in-Some.is) c.field_size-n.ensures (sym c.read_le-2.ensures ∙ c.in-Some-read_le.is) (sym c.read_le-3.ensures ∙ c.in-Some-read_le-2.is)) c.record_rest.ensures
