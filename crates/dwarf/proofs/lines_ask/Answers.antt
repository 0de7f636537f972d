-- `dwarf::lines_ask` meets its contract.
use mathlib.Core.Bool.{not}
use mathlib.Core.Path.{ap, refl}
use Rattle.format.specs.Prelude.{pick}
use Rattle.format.proofs.Asked.{question_of}
use Rattle.format.specs.Questions.{ask, and_then}
use Rattle.lists.proofs.Answers.{accepted, refused}
use Rattle.dwarf.specs.Asks.{lines_asks}
use Rattle.dwarf.proofs.lines_ask.Goals as goal

pub returns-then-fine : goal.returns-then-fine
unfolding lines_asks ask and_then question_of pick
returns-then-fine c = let p = c.fine.ensures c.if-fine.true in simp (p.0, p.1) refl

pub returns-then-not-steps_ok : goal.returns-then-not-steps_ok
unfolding lines_asks ask and_then question_of pick
returns-then-not-steps_ok c = rw c.function_refused.ensures (simp (refused c.steps_ok.ensures (ap not c.if-not-steps_ok.true)) refl)

pub returns-then-not-whole : goal.returns-then-not-whole
unfolding lines_asks ask and_then question_of pick
returns-then-not-whole c = rw c.function_refused-then-not-whole.ensures (simp (accepted c.steps_ok.ensures (ap not c.if-not-steps_ok.false), refused c.whole.ensures (ap not c.if-not-whole.true)) refl)

pub returns : goal.returns
unfolding lines_asks ask and_then question_of pick
returns c = simp (accepted c.steps_ok.ensures (ap not c.if-not-steps_ok.false), accepted c.whole.ensures (ap not c.if-not-whole.false)) refl
