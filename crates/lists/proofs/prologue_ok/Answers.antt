-- `lists::prologue_ok` meets its contract.
use mathlib.Core.Bool.{not}
use mathlib.Core.Path.{ap, refl, ◌∙◌}
use borrow.Author.Rules.{rules}
use borrow.Author.Tests.{tests}
use Rattle.std.proofs.lemmas.Iterator.{YieldsList-from_range}
use Rattle.std.proofs.lemmas.Iterator.Search.{all_from_yields_List}
use Rattle.format.proofs.Asking.{all_in_range}
use native.Mathlib.Omega.{arith}
use Rattle.std.proofs.iter.Serving.{serving}
use Rattle.format.specs.Lists.{code_ok_at, prologue_ok_at}
use Rattle.lists.proofs.Answers.{accepted, refused, reached}
use Rattle.lists.proofs.prologue_ok.Goals as goal

pub returns-then-not-symbol_ok : goal.returns-then-not-symbol_ok
unfolding prologue_ok_at
returns-then-not-symbol_ok c = simp (refused (rw c.number.ensures at c.symbol_ok.ensures) (ap not c.if-not-symbol_ok.true))

pub returns-then-not-inside : goal.returns-then-not-inside
unfolding prologue_ok_at
returns-then-not-inside c =
    simp (
      accepted (rw c.number.ensures at c.symbol_ok.ensures) (ap not c.if-not-symbol_ok.false),
      refused (rw (c.number-at.ensures, c.number-n.ensures) at c.inside.ensures) (ap not c.if-not-inside.true),
    )

pub overflow_add-at : goal.overflow_add-at
overflow_add-at c = omega (arith, reached _ _ _ (accepted c.inside.ensures (ap not c.if-not-inside.false)))

pub all-requires-clause-callable : goal.all-requires-clause-callable
all-requires-clause-callable c = let h = reached _ _ _ (accepted c.inside.ensures (ap not c.if-not-inside.false)) in grind serving

pub returns : goal.returns
unfolding prologue_ok_at
returns c =
    let test = code_ok_at c.args.codes.now in
    let e = all_from_yields_List test _ _ _ c.all.ensures.ran (YieldsList-from_range _ _ c.number-n.result refl (omega (arith, reached _ _ _ (accepted c.inside.ensures (ap not c.if-not-inside.false))))) (λ x b q k. search (rules, tests)) ∙ all_in_range test _ _ in
    simp (
      accepted (rw c.number.ensures at c.symbol_ok.ensures) (ap not c.if-not-symbol_ok.false),
      accepted (rw (c.number-at.ensures, c.number-n.ensures) at c.inside.ensures) (ap not c.if-not-inside.false),
    )
    (rw (c.number-at.ensures, c.number-n.ensures) at e)
