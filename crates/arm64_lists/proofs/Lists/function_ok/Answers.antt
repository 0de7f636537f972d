-- `Lists::function_ok` meets its contract.
use mathlib.Core.Path.{sym, ◌∙◌}
use Rattle.lists.proofs.Answers.{reached}
use Rattle.arm64.specs.Writer.{function_ok_at}
use Rattle.arm64_lists.proofs.Lists.function_ok.Goals as goal

pub returns-then-not-symbol_ok : goal.returns-then-not-symbol_ok
unfolding function_ok_at
returns-then-not-symbol_ok c = simp (rw c.number.ensures at (sym c.symbol_ok.ensures ∙ c.if-not-symbol_ok.true))

pub returns-then-not-codes_ok_in : goal.returns-then-not-codes_ok_in
unfolding function_ok_at
returns-then-not-codes_ok_in c = simp (rw c.number.ensures at (sym c.symbol_ok.ensures ∙ c.if-not-symbol_ok.false), rw (c.number-2.ensures, c.number-3.ensures) at (sym c.codes_ok_in.ensures ∙ c.if-not-codes_ok_in.true))

pub returns-then-not-inside : goal.returns-then-not-inside
unfolding function_ok_at
returns-then-not-inside c = simp (rw c.number.ensures at (sym c.symbol_ok.ensures ∙ c.if-not-symbol_ok.false), rw (c.number-2.ensures, c.number-3.ensures) at (sym c.codes_ok_in.ensures ∙ c.if-not-codes_ok_in.false), rw (c.number-at.ensures, c.number-n.ensures) at (sym c.inside.ensures ∙ c.if-not-inside.true))

pub epilogues_in-requires : goal.epilogues_in-requires
epilogues_in-requires c = reached _ _ _ (sym c.inside.ensures ∙ c.if-not-inside.false)

pub returns : goal.returns
unfolding function_ok_at
returns c = simp (rw c.number.ensures at (sym c.symbol_ok.ensures ∙ c.if-not-symbol_ok.false), rw (c.number-2.ensures, c.number-3.ensures) at (sym c.codes_ok_in.ensures ∙ c.if-not-codes_ok_in.false), rw (c.number-at.ensures, c.number-n.ensures) at (sym c.inside.ensures ∙ c.if-not-inside.false)) (rw (c.number-at.ensures, c.number-n.ensures) at c.epilogues_in.ensures)
