-- `reader::section::Body::header_factors` meets its contract.
use mathlib.Core.Path.{◌≡◌, refl, sym, ◌∙◌}
use Rattle.rows.proofs.Signs.{passed}
use Rattle.format.specs.Headers.{data_factor}
use Rattle.format.specs.Rows.{same_offset}
use native.Mathlib.Omega.{arith}
use Rattle.operations.proofs.PositionLaws.{uleb_ahead}
use Rattle.reader.proofs.Headed.{factors_none, factors_code, factors_open, factors_data, factors_unnamed, factors_over, factors_there, factors_mark, tail_absent, tail_given}
use Rattle.reader.proofs.section.Body.header_factors.Goals as goal
use Rattle.reader.proofs.section.Body.header_factors.Goals.{After-factor_ok}

-- what the test of the data alignment factor says of the number that was read
same : (c : After-factor_ok) → c.factor_ok.result ≡ same_offset c.in-Some-read_sleb.z (data_factor c.args.self.now.layout.word)
same c = rw (passed c.in-Some-read_sleb.z (omega arith)) at c.factor_ok.ensures

pub returns-in_default : goal.returns-in_default
returns-in_default c = (refl, factors_none c.args.self.now.bytes.now c.args.at c.args.self.now.layout.debug c.args.self.now.layout.word c.args.p (sym c.read_uleb.ensures ∙ c.in_default.is))

pub returns-then-code-ne1 : goal.returns-then-code-ne1
returns-then-code-ne1 c = (refl, factors_code c.args.self.now.bytes.now c.args.at c.args.self.now.layout.debug c.args.self.now.layout.word c.args.p (sym c.read_uleb.ensures ∙ c.in-Some.is) c.if-code-ne1.true)

pub returns-in_default-read_sleb : goal.returns-in_default-read_sleb
returns-in_default-read_sleb c = (refl, factors_open c.args.self.now.bytes.now c.args.at c.args.self.now.layout.debug c.args.self.now.layout.word c.args.p (sym c.read_uleb.ensures ∙ c.in-Some.is) c.if-code-ne1.false (sym c.read_sleb.ensures ∙ c.in_default-read_sleb.is))

pub returns-then-not-factor_ok : goal.returns-then-not-factor_ok
returns-then-not-factor_ok c = (refl, factors_data c.args.self.now.bytes.now c.args.at c.args.self.now.layout.debug c.args.self.now.layout.word c.args.p (sym c.read_uleb.ensures ∙ c.in-Some.is) c.if-code-ne1.false (sym c.read_sleb.ensures ∙ c.in-Some-read_sleb.is) (sym (same (goal.at.returns-then-not-factor_ok c).After-factor_ok) ∙ c.if-not-factor_ok.true))

pub returns-in_default-read_uleb : goal.returns-in_default-read_uleb
returns-in_default-read_uleb c = (refl, factors_unnamed c.args.self.now.bytes.now c.args.at c.args.self.now.layout.debug c.args.self.now.layout.word c.args.p (sym c.read_uleb.ensures ∙ c.in-Some.is) c.if-code-ne1.false (sym c.read_sleb.ensures ∙ c.in-Some-read_sleb.is) (sym (same (goal.at.returns-in_default-read_uleb c).After-factor_ok) ∙ c.if-not-factor_ok.false) (sym c.read_uleb-2.ensures ∙ c.in_default-read_uleb.is))

pub returns-then-reg-gt65535 : goal.returns-then-reg-gt65535
returns-then-reg-gt65535 c = (refl, factors_over c.args.self.now.bytes.now c.args.at c.args.self.now.layout.debug c.args.self.now.layout.word c.args.p (sym c.read_uleb.ensures ∙ c.in-Some.is) c.if-code-ne1.false (sym c.read_sleb.ensures ∙ c.in-Some-read_sleb.is) (sym (same (goal.at.returns-then-reg-gt65535 c).After-factor_ok) ∙ c.if-not-factor_ok.false) (sym c.read_uleb-2.ensures ∙ c.in-Some-read_uleb.is) c.if-reg-gt65535.true)

pub header_tail-requires : goal.header_tail-requires
header_tail-requires c = (uleb_ahead c.args.self.now.bytes.now c.in-Some-read_sleb.ret (sym c.read_uleb-2.ensures ∙ c.in-Some-read_uleb.is)).1

pub returns-in_default-header_tail : goal.returns-in_default-header_tail
returns-in_default-header_tail c = (refl, factors_there c.args.self.now.bytes.now c.args.at c.args.self.now.layout.debug c.args.self.now.layout.word c.args.p (sym c.read_uleb.ensures ∙ c.in-Some.is) c.if-code-ne1.false (sym c.read_sleb.ensures ∙ c.in-Some-read_sleb.is) (sym (same (goal.at.returns-in_default-header_tail c).After-factor_ok) ∙ c.if-not-factor_ok.false) (sym c.read_uleb-2.ensures ∙ c.in-Some-read_uleb.is) c.if-reg-gt65535.false ∙ tail_absent _ _ c.header_tail.ensures c.in_default-header_tail.is)

pub returns : goal.returns
returns c =
    rw (
      factors_there c.args.self.now.bytes.now c.args.at c.args.self.now.layout.debug c.args.self.now.layout.word c.args.p (sym c.read_uleb.ensures ∙ c.in-Some.is) c.if-code-ne1.false (sym c.read_sleb.ensures ∙ c.in-Some-read_sleb.is) (sym (same (goal.at.returns c).After-factor_ok) ∙ c.if-not-factor_ok.false) (sym c.read_uleb-2.ensures ∙ c.in-Some-read_uleb.is) c.if-reg-gt65535.false,
      factors_mark c.args.self.now.bytes.now c.args.at c.args.self.now.layout.debug c.args.self.now.layout.word c.args.p (sym c.read_uleb.ensures ∙ c.in-Some.is) c.if-code-ne1.false (sym c.read_sleb.ensures ∙ c.in-Some-read_sleb.is) (sym (same (goal.at.returns c).After-factor_ok) ∙ c.if-not-factor_ok.false) (sym c.read_uleb-2.ensures ∙ c.in-Some-read_uleb.is),
    )
    (tail_given _ _ c.header_tail.ensures c.in-Some-header_tail.is)
