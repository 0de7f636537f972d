-- `reader::section::Body::parse_record` meets its contract.
use mathlib.Core.Path.{refl, sym, ◌∙◌}
use native.Mathlib.Omega.{arith}
use Rattle.reader.proofs.Recorded.{field_small, parse_none, parse_placeless, parse_sizeless, tail_inside, parse_rest, parse_mark, tail_absent, tail_given}
use Rattle.reader.proofs.section.Body.parse_record.Goals as goal

pub returns-in_default : goal.returns-in_default
returns-in_default c = (refl, parse_none c.args.self.now.bytes.now c.args.self.now.layout.debug c.args.self.now.layout.word c.args.pointer c.args.shortest (sym c.read_le.ensures ∙ c.in_default.is))

pub read_le-requires-2 : goal.read_le-requires-2
read_le-requires-2 c = omega (arith, c.field_size-n.ensures, (field_small c.args.self.now.layout.debug c.args.self.now.layout.word c.args.self.now.layout.is_word).1)

pub returns-in_default-read_le : goal.returns-in_default-read_le
returns-in_default-read_le c = (refl, parse_placeless c.args.self.now.bytes.now c.args.self.now.layout.debug c.args.self.now.layout.word c.args.pointer c.args.shortest c.args.self.now.layout.is_word (sym c.read_le.ensures ∙ c.in-Some.is) c.field_size-n.ensures (sym c.read_le-2.ensures ∙ c.in_default-read_le.is))

pub read_le-requires-3 : goal.read_le-requires-3
read_le-requires-3 c = omega (arith, c.field_size-n.ensures, (field_small c.args.self.now.layout.debug c.args.self.now.layout.word c.args.self.now.layout.is_word).1)

pub returns-in_default-read_le-2 : goal.returns-in_default-read_le-2
returns-in_default-read_le-2 c = (refl, parse_sizeless c.args.self.now.bytes.now c.args.self.now.layout.debug c.args.self.now.layout.word c.args.pointer c.args.shortest c.args.self.now.layout.is_word (sym c.read_le.ensures ∙ c.in-Some.is) c.field_size-n.ensures (sym c.read_le-2.ensures ∙ c.in-Some-read_le.is) (sym c.read_le-3.ensures ∙ c.in_default-read_le-2.is))

pub record_tail-requires : goal.record_tail-requires
record_tail-requires c = tail_inside c.args.self.now.bytes.now c.args.self.now.layout.debug c.args.self.now.layout.word c.args.pointer c.args.shortest c.args.self.now.layout.is_word (sym c.read_le.ensures ∙ c.in-Some.is) c.field_size-n.ensures (sym c.read_le-2.ensures ∙ c.in-Some-read_le.is) (sym c.read_le-3.ensures ∙ c.in-Some-read_le-2.is)

pub returns-in_default-record_tail : goal.returns-in_default-record_tail
returns-in_default-record_tail c = (refl, parse_rest c.args.self.now.bytes.now c.args.self.now.layout.debug c.args.self.now.layout.word c.args.pointer c.args.shortest c.args.self.now.layout.is_word (sym c.read_le.ensures ∙ c.in-Some.is) c.field_size-n.ensures (sym c.read_le-2.ensures ∙ c.in-Some-read_le.is) (sym c.read_le-3.ensures ∙ c.in-Some-read_le-2.is) ∙ tail_absent _ _ c.record_tail.ensures c.in_default-record_tail.is)

pub returns : goal.returns
returns c =
    rw (
      parse_rest c.args.self.now.bytes.now c.args.self.now.layout.debug c.args.self.now.layout.word c.args.pointer c.args.shortest c.args.self.now.layout.is_word (sym c.read_le.ensures ∙ c.in-Some.is) c.field_size-n.ensures (sym c.read_le-2.ensures ∙ c.in-Some-read_le.is) (sym c.read_le-3.ensures ∙ c.in-Some-read_le-2.is),
      parse_mark c.args.self.now.bytes.now c.args.self.now.layout.debug c.args.self.now.layout.word c.args.pointer c.args.shortest c.args.self.now.layout.is_word (sym c.read_le.ensures ∙ c.in-Some.is) c.field_size-n.ensures (sym c.read_le-2.ensures ∙ c.in-Some-read_le.is) (sym c.read_le-3.ensures ∙ c.in-Some-read_le-2.is),
    )
    (tail_given _ _ c.record_tail.ensures c.in-Some-record_tail.is)
