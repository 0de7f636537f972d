-- `lists::room` meets its contract.
use borrow.Author.Tests.{le-leb, lt-leb}
use mathlib.Core.Path.{◌≡◌, refl, ap}
use Rattle.std.specs.Prelude.{Err}
use Rattle.format.specs.declared.Refusal.{Refusal}
use Rattle.format.specs.declared.question.Question.{Question}
use Rattle.format.specs.Coded.{numbered_at}
use Rattle.format.specs.Numbers.{number_of}
use Rattle.format.specs.Prelude.{pick}
use Rattle.format.proofs.Asked.{question_of}
use Rattle.format.specs.Questions.{ask, and_then}
use Rattle.lists.specs.Room.{room_for}
use Rattle.lists.proofs.room.Goals as goal

told : {r : Refusal} {q : Question} → r ≡ record { question = q; position = 0 } → numbered_at {A = Unit} (Err r) ≡ Err (number_of q, 0)
told e = ap (λ (r : Refusal). numbered_at {A = Unit} (Err r)) e

pub returns-then-lent-needed : goal.returns-then-lent-needed
unfolding room_for ask and_then question_of pick
returns-then-lent-needed c = simp (lt-leb _ _ c.if-lent-needed.true) (told c.into.ensures)

pub returns-then-lent-needed-2 : goal.returns-then-lent-needed-2
unfolding room_for ask and_then question_of pick
returns-then-lent-needed-2 c = simp (le-leb _ _ c.if-lent-needed.false, lt-leb _ _ c.if-lent-needed-2.true) (told c.into-then-lent-needed-2.ensures)

pub returns-then-lent-needed-3 : goal.returns-then-lent-needed-3
unfolding room_for ask and_then question_of pick
returns-then-lent-needed-3 c = simp (le-leb _ _ c.if-lent-needed.false, le-leb _ _ c.if-lent-needed-2.false, lt-leb _ _ c.if-lent-needed-3.true) (told c.into-then-lent-needed-3.ensures)

pub returns-then-lent-needed-4 : goal.returns-then-lent-needed-4
unfolding room_for ask and_then question_of pick
returns-then-lent-needed-4 c = simp (le-leb _ _ c.if-lent-needed.false, le-leb _ _ c.if-lent-needed-2.false, le-leb _ _ c.if-lent-needed-3.false, lt-leb _ _ c.if-lent-needed-4.true) (told c.into-then-lent-needed-4.ensures)

pub returns : goal.returns
unfolding room_for ask and_then question_of pick
returns c = simp (le-leb _ _ c.if-lent-needed.false, le-leb _ _ c.if-lent-needed-2.false, le-leb _ _ c.if-lent-needed-3.false, le-leb _ _ c.if-lent-needed-4.false) refl
