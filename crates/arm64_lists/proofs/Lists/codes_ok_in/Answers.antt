-- `Lists::codes_ok_in` meets its contract.
use mathlib.Core.Path.{sym, ◌∙◌}
use Rattle.lists.proofs.Answers.{reached}
use Rattle.arm64.specs.Writer.{codes_ok_in}
use Rattle.arm64_lists.proofs.Lists.codes_ok_in.Goals as goal

pub returns-then-not-inside : goal.returns-then-not-inside
unfolding codes_ok_in
returns-then-not-inside c = simp (sym c.inside.ensures ∙ c.if-not-inside.true)

pub codes_in-requires : goal.codes_in-requires
codes_in-requires c = reached _ _ _ (sym c.inside.ensures ∙ c.if-not-inside.false)

pub returns : goal.returns
unfolding codes_ok_in
returns c = simp (sym c.inside.ensures ∙ c.if-not-inside.false) c.codes_in.ensures
