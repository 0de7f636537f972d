-- `leaving::Leaving::one` meets its contract.
use mathlib.Core.Path.{sym, ap, ◌∙◌}
use Rattle.format.specs.Prelude.{good}
use Rattle.walk.specs.Walk.{left_by}
use Rattle.walked.proofs.Rules.{answered, never, by_rule}
use Rattle.walked.proofs.leaving.Leaving.one.Goals as goal

pub returns-then-not-named : goal.returns-then-not-named
unfolding left_by
returns-then-not-named c = rw (c.requires.1 c.if-not-named.true) (ap good c.slot.ensures)

pub returns-in_err-rules : goal.returns-in_err-rules
returns-in_err-rules c =
    let z = c.args in
    absurd (never z.self.now.at.section.now z.self.now.at.located z.reg z.self.now.at.p (sym c.in_err-rules.ensures) c.args.self.now.readable)

pub returns : goal.returns
returns c =
    let z = c.args in
    let a = answered z.self.now.at.section.now z.self.now.at.located z.reg z.self.now.at.p (sym c.in_ok-rules.ensures) in
    c.left_by.ensures ∙ by_rule _ _ _ _ _ a.1
