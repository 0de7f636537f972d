-- `parts::body::Placed::header_fields` meets its contract.
use mathlib.Core.Path.{refl, sym, ◌∙◌}
use Rattle.parts.specs.Headers.{header_numbers}
use Rattle.parts.proofs.Headed.{parts_none, versionless, version_other, stringless, string_there}
use Rattle.parts.proofs.body.Placed.header_fields.Goals as goal

pub returns-in_default : goal.returns-in_default
unfolding header_numbers
returns-in_default c = rw (parts_none c.args.self.now.body.bytes.now c.args.self.now.body.layout.debug c.args.self.now.body.layout.word (sym c.read_le.ensures ∙ c.in_default.is)) refl

pub returns-then-body-from : goal.returns-then-body-from
unfolding header_numbers
returns-then-body-from c = rw (versionless c.args.self.now.body.bytes.now c.args.self.now.body.layout.debug c.args.self.now.body.layout.word (sym c.read_le.ensures ∙ c.in-Some.is) c.if-body-from.true) refl

pub returns-then-body-from-ne1 : goal.returns-then-body-from-ne1
unfolding header_numbers
returns-then-body-from-ne1 c = rw (version_other c.args.self.now.body.bytes.now c.args.self.now.body.layout.debug c.args.self.now.body.layout.word (sym c.read_le.ensures ∙ c.in-Some.is) c.if-body-from.false c.if-body-from-ne1.true) refl

pub returns-in_default-letters : goal.returns-in_default-letters
unfolding header_numbers
returns-in_default-letters c = rw (stringless c.args.self.now.body.bytes.now c.args.self.now.body.layout.debug c.args.self.now.body.layout.word (sym c.read_le.ensures ∙ c.in-Some.is) c.if-body-from.false c.if-body-from-ne1.false c.letters.ensures c.in_default-letters.is) refl

pub returns : goal.returns
returns c = rw (string_there c.args.self.now.body.bytes.now c.args.self.now.body.layout.debug c.args.self.now.body.layout.word (sym c.read_le.ensures ∙ c.in-Some.is) c.if-body-from.false c.if-body-from-ne1.false c.letters.ensures c.in-Some-letters.is) c.header_factors.ensures
