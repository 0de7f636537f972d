-- Refusals: a question and a place; their numbers; and what follows where nothing is refused.
use Rattle.std.specs.Prelude.{ℕ, Option, Some, None, Result, Ok, Err}
use Rattle.cfi_entries.specs.declared.refusal.Question.{Question}
use Rattle.cfi_entries.specs.declared.refusal.Question.TheVariants.{Tiling, Record, Header, Fields, Offset, Operations, States, StatesRoom, FrameRule, Base}
use Rattle.cfi_entries.specs.declared.refusal.Refusal.{Refusal}

abbrev pub number_of : Question → ℕ
number_of Tiling = 61
number_of Record = 62
number_of Header = 63
number_of Fields = 64
number_of Offset = 65
number_of Operations = 66
number_of States = 67
number_of StatesRoom = 68
number_of FrameRule = 69
number_of Base = 94

abbrev pub refused : Question → ℕ → Refusal
refused q p = record { question = q; place = p }

-- an answer: a value, or a refusal
abbrev pub Answer : Type 0 → Type 0
Answer A = Result A Refusal

infixl 10 ◌>>=◌
abbrev pub ◌>>=◌ : {A B : Type 0} → Answer A → (A → Answer B) → Answer B
(Ok x) >>= f = f x
(Err r) >>= f = Err r

-- what follows from a value, where there is one
infixl 10 ◌>>?◌
abbrev pub ◌>>?◌ : {A B : Type 0} → Option A → (A → Option B) → Option B
(Some x) >>? f = f x
None >>? f = None

-- a value where there is one, else a refusal
abbrev pub or_refused : {A : Type 0} → Question → ℕ → Option A → Answer A
or_refused q p (Some x) = Ok x
or_refused q p None = Err (refused q p)
