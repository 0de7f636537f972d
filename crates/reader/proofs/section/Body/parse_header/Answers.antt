-- `reader::section::Body::parse_header` meets its contract.
use mathlib.Core.Path.{refl, sym, ◌∙◌}
use Rattle.reader.proofs.Headed.{parse_none, parse_ended, parse_version, parse_string, parse_rest, parse_mark}
use Rattle.reader.proofs.section.Body.parse_header.Goals as goal

pub returns-in_default : goal.returns-in_default
returns-in_default c = (refl, parse_none c.args.self.now.bytes.now c.args.self.now.layout.debug c.args.self.now.layout.word (sym c.read_le.ensures ∙ c.in_default.is))

pub returns-then-s-from : goal.returns-then-s-from
returns-then-s-from c = (refl, parse_ended c.args.self.now.bytes.now c.args.self.now.layout.debug c.args.self.now.layout.word (sym c.read_le.ensures ∙ c.in-Some.is) c.if-s-from.true)

pub returns-then-s-from-ne1 : goal.returns-then-s-from-ne1
returns-then-s-from-ne1 c = (refl, parse_version c.args.self.now.bytes.now c.args.self.now.layout.debug c.args.self.now.layout.word (sym c.read_le.ensures ∙ c.in-Some.is) c.if-s-from.false c.if-s-from-ne1.true)

pub returns-in_default-letters : goal.returns-in_default-letters
returns-in_default-letters c = (refl, parse_string c.args.self.now.bytes.now c.args.self.now.layout.debug c.args.self.now.layout.word (sym c.read_le.ensures ∙ c.in-Some.is) c.if-s-from.false c.if-s-from-ne1.false c.letters.ensures c.in_default-letters.is)

pub returns : goal.returns
returns c =
    rw (
      parse_rest c.args.self.now.bytes.now c.args.self.now.layout.debug c.args.self.now.layout.word (sym c.read_le.ensures ∙ c.in-Some.is) c.if-s-from.false c.if-s-from-ne1.false c.letters.ensures c.in-Some-letters.is,
      parse_mark c.args.self.now.bytes.now c.args.self.now.layout.debug c.args.self.now.layout.word (sym c.read_le.ensures ∙ c.in-Some.is) c.if-s-from.false c.if-s-from-ne1.false c.letters.ensures c.in-Some-letters.is,
    )
    c.header_factors.ensures
