-- The code's answers: a value or a question's number, and what the writers and the reader answer.
use Rattle.std.specs.Prelude.{ℕ, Ok, Err}
use Rattle.std.specs.Prelude as code
use Rattle.format.specs.declared.Counts.{Counts}
use Rattle.format.specs.declared.Refusal.{Refusal}
use Rattle.format.specs.declared.question.Question.{Question}
use Rattle.format.specs.Numbers.{number_of}
use Rattle.format.specs.declared.Rules.{Rules}
use Rattle.format.specs.Prelude.{Result, good, bad}

-- a value, or the number of the question that was answered by no
abbrev pub result_of : {A : Type 0} → Result A → code.Result A ℕ
result_of (good a) = Ok a
result_of (bad n) = Err n

-- a reader's answer, with the number of the question in place of its name
abbrev pub numbered : {A : Type 0} → code.Result A Question → code.Result A ℕ
numbered (Ok a) = Ok a
numbered (Err q) = Err (number_of q)

-- a writer's answer, with the number of the question beside the function's position
abbrev pub numbered_at : {A : Type 0} → code.Result A Refusal → code.Result A (ℕ × ℕ)
numbered_at (Ok a) = Ok a
numbered_at (Err r) = Err (number_of r.question, r.position)

-- what a writer answers: the counts of what it wrote; nothing, in a format that has no table; or a question's number and a position
abbrev pub Outcome : Type 0
Outcome = code.Result (code.Option Counts) (ℕ × ℕ)

-- what the reader answers: the rules, or a question's number
abbrev pub Reading : Type 0
Reading = code.Result Rules ℕ
