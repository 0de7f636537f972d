-- What the state of the code means: the rules of one register.
use Rattle.std.specs.Prelude.{◌≡◌, ℕ, reverse, take, Ok, Err}
use Rattle.std.specs.Prelude as code
use Rattle.format.specs.Prelude.{Result, good, bad}
use Rattle.format.specs.Numbers.{number_of}
use Rattle.format.specs.declared.question.Question.{Question}
use Rattle.reader.specs.OneRegister.{Run}
use Rattle.reader.specs.declared.state.State.{State}

-- the run that a state means: its stored rules, the last first
unfoldable pub run_of : State → Run
run_of s = record { current = s.rules; stored = reverse (take s.depth s.stored) }

-- a row is answered as the definition answers it: the run after it, or the question
abbrev pub Acts : code.Result Unit Question → Run → Result Run → Type 0
Acts (Ok u) s a = a ≡ good s
Acts (Err q) s a = a ≡ bad (number_of q)

-- and so is an operation: the step that it is, and the run after it, or the question
abbrev pub Performs : code.Result (code.Option ℕ) Question → Run → Result (code.Option ℕ × Run) → Type 0
Performs (Ok n) s a = a ≡ good (n, s)
Performs (Err q) s a = a ≡ bad (number_of q)
