-- `reader::rules_at` meets its contract.
use mathlib.Core.Path.{sym, ◌∙◌}
use native.Mathlib.Omega.{arith}
use Rattle.reader.proofs.Asked.{not_in_section, past_the_end, within}
use Rattle.reader.proofs.rules_at.Goals as goal

pub returns-then-not-in_section : goal.returns-then-not-in_section
returns-then-not-in_section c = not_in_section _ _ _ _ (sym c.in_section.ensures ∙ c.if-not-in_section.true)

pub returns-then-l-p : goal.returns-then-l-p
returns-then-l-p c = past_the_end _ _ _ _ (sym c.in_section.ensures ∙ c.if-not-in_section.false) c.if-l-p.true

pub run-requires : goal.run-requires
run-requires c = rw (sym c.in_section.ensures ∙ c.if-not-in_section.false) tt

pub returns : goal.returns
returns c =
    c.run.ensures ∙ within _ _ _ _ (sym c.in_section.ensures ∙ c.if-not-in_section.false) (omega (arith, c.if-l-p.false))
