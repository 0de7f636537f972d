-- `parts::body::Placed::header_factors` meets its contract.
use mathlib.Core.Path.{refl, ◌≡◌, sym, ◌∙◌}
use native.Mathlib.Omega.{arith}
use Rattle.rows.proofs.Signs.{passed}
use Rattle.format.specs.Headers.{data_factor}
use Rattle.format.specs.Rows.{same_offset}
use Rattle.operations.proofs.PositionLaws.{uleb_ahead}
use Rattle.reader.specs.Fields.{letters_of}
use Rattle.parts.specs.Headers.{header_numbers}
use Rattle.parts.proofs.Headed.{codeless, code_other, dataless, data_other, retless, ret_over, ret_there}
use Rattle.parts.proofs.body.Placed.header_factors.Goals as goal
use Rattle.parts.proofs.body.Placed.header_factors.Goals.{After-factor_ok}

-- what the test of the data alignment factor says of the number that was read
same : (c : After-factor_ok) → c.factor_ok.result ≡ same_offset c.in-Some-read_sleb.z (data_factor c.args.self.now.body.layout.word)
same c = rw (passed c.in-Some-read_sleb.z (omega arith)) at c.factor_ok.ensures

pub returns-in_default : goal.returns-in_default
unfolding header_numbers
returns-in_default c = rw (codeless c.args.self.now.body.bytes.now c.args.at c.args.self.now.body.layout.debug (letters_of c.args.p) c.args.self.now.body.layout.word (sym c.read_uleb.ensures ∙ c.in_default.is)) refl

pub returns-then-code-ne1 : goal.returns-then-code-ne1
unfolding header_numbers
returns-then-code-ne1 c = rw (code_other c.args.self.now.body.bytes.now c.args.at c.args.self.now.body.layout.debug (letters_of c.args.p) c.args.self.now.body.layout.word (sym c.read_uleb.ensures ∙ c.in-Some.is) c.if-code-ne1.true) refl

pub returns-in_default-read_sleb : goal.returns-in_default-read_sleb
unfolding header_numbers
returns-in_default-read_sleb c = rw (dataless c.args.self.now.body.bytes.now c.args.at c.args.self.now.body.layout.debug (letters_of c.args.p) c.args.self.now.body.layout.word (sym c.read_uleb.ensures ∙ c.in-Some.is) c.if-code-ne1.false (sym c.read_sleb.ensures ∙ c.in_default-read_sleb.is)) refl

pub returns-then-not-factor_ok : goal.returns-then-not-factor_ok
unfolding header_numbers
returns-then-not-factor_ok c = rw (data_other c.args.self.now.body.bytes.now c.args.at c.args.self.now.body.layout.debug (letters_of c.args.p) c.args.self.now.body.layout.word (sym c.read_uleb.ensures ∙ c.in-Some.is) c.if-code-ne1.false (sym c.read_sleb.ensures ∙ c.in-Some-read_sleb.is) (sym (same (goal.at.returns-then-not-factor_ok c).After-factor_ok) ∙ c.if-not-factor_ok.true)) refl

pub returns-in_default-read_uleb : goal.returns-in_default-read_uleb
unfolding header_numbers
returns-in_default-read_uleb c = rw (retless c.args.self.now.body.bytes.now c.args.at c.args.self.now.body.layout.debug (letters_of c.args.p) c.args.self.now.body.layout.word (sym c.read_uleb.ensures ∙ c.in-Some.is) c.if-code-ne1.false (sym c.read_sleb.ensures ∙ c.in-Some-read_sleb.is) (sym (same (goal.at.returns-in_default-read_uleb c).After-factor_ok) ∙ c.if-not-factor_ok.false) (sym c.read_uleb-2.ensures ∙ c.in_default-read_uleb.is)) refl

pub returns-then-reg-gt65535 : goal.returns-then-reg-gt65535
unfolding header_numbers
returns-then-reg-gt65535 c = rw (ret_over c.args.self.now.body.bytes.now c.args.at c.args.self.now.body.layout.debug (letters_of c.args.p) c.args.self.now.body.layout.word (sym c.read_uleb.ensures ∙ c.in-Some.is) c.if-code-ne1.false (sym c.read_sleb.ensures ∙ c.in-Some-read_sleb.is) (sym (same (goal.at.returns-then-reg-gt65535 c).After-factor_ok) ∙ c.if-not-factor_ok.false) (sym c.read_uleb-2.ensures ∙ c.in-Some-read_uleb.is) c.if-reg-gt65535.true) refl

pub header_rest-requires : goal.header_rest-requires
header_rest-requires c = (uleb_ahead c.args.self.now.body.bytes.now c.in-Some-read_sleb.b (sym c.read_uleb-2.ensures ∙ c.in-Some-read_uleb.is)).1

pub returns : goal.returns
returns c = rw (ret_there c.args.self.now.body.bytes.now c.args.at c.args.self.now.body.layout.debug (letters_of c.args.p) c.args.self.now.body.layout.word (sym c.read_uleb.ensures ∙ c.in-Some.is) c.if-code-ne1.false (sym c.read_sleb.ensures ∙ c.in-Some-read_sleb.is) (sym (same (goal.at.returns c).After-factor_ok) ∙ c.if-not-factor_ok.false) (sym c.read_uleb-2.ensures ∙ c.in-Some-read_uleb.is) c.if-reg-gt65535.false) c.header_rest.ensures
