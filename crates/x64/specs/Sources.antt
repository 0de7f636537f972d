-- Where the codes of a function come from: direct codes, or the rows of its prologue.
use Rattle.std.specs.Prelude.{◌≡◌, ℕ, zero, suc, ◌+◌, ◌-◌, ◌^◌, ◌<◌, List, [], ◌∷◌, ◌++◌, ltb, Ok, Err, ℤ, pos}
use Rattle.std.specs.Prelude as code
use Rattle.std.proofs.Math.Option.{Option, none, some}
use Rattle.format.specs.Prelude.{pick, Result, good, bad, onward, each}
use Rattle.format.specs.Numbers.{number_of}
use Rattle.format.specs.declared.question.Question as question
use Rattle.format.specs.declared.Machine.{Machine}
use Rattle.format.specs.declared.Seh.{Seh}
use Rattle.format.specs.Lists.{Function, Prologue, field, code_at, function_at, prologue_at}
use Rattle.format.specs.X64.{codes_of, prologue_of, prologue_no, x64}
use Rattle.format.specs.Questions.{Question, and_then}
use Rattle.format.specs.Writer.{Written}
use Rattle.prologue.specs.Pieces.{piece_in, moved_in}
use Rattle.prologue.specs.Given.{rows_in}
use Rattle.x64.specs.declared.given.Records.{Records}
use Rattle.x64.specs.declared.given.Records.TheVariants.{Codes, ByRows}
use Rattle.x64.specs.Answers.{ask_each}
use Rattle.x64.specs.Listed.{stride_of, records_in}
use Rattle.x64.specs.declared.given.Source.{Source}
use Rattle.x64.specs.declared.given.Source.TheVariants.{Direct, Rows}
use Rattle.x64.specs.declared.given.Span.{Span}

-- ---- a function's codes

-- what record i yields, with the distance `sofar` in front of it: a code at its offset, or none
unfoldable pub piece_at : Records → (sofar : ℤ) → ℕ → List (ℕ × Seh)
piece_at (Codes list) sofar i = code_at list.now i ∷ []
piece_at (ByRows m p) sofar i = piece_in m.machine.now p.below sofar p.rows.rows.now 0 i (rows_in p.rows)

-- the distance behind it
unfoldable pub moved_at : Records → (sofar : ℤ) → ℕ → ℤ
moved_at (Codes list) sofar i = sofar
moved_at (ByRows m p) sofar i = moved_in sofar p.rows.rows.now i

-- the distance in front of the first; direct codes pass none on
unfoldable pub pushed_by : Records → ℕ
pushed_by (Codes list) = 0
pushed_by (ByRows m p) = m.machine.now.pushed

-- the codes of n records from i on
unfoldable pub codes_from : Records → (sofar : ℤ) → (i n : ℕ) → List (ℕ × Seh)
codes_from r sofar i zero = []
codes_from r sofar i (suc n) = piece_at r sofar i ++ codes_from r (moved_at r sofar i) (suc i) n

-- and of all of them
abbrev pub codes_in : Records → List (ℕ × Seh)
codes_in r = codes_from r (pos (pushed_by r)) 0 (records_in r)

-- ---- a function

-- the function that a span means
abbrev pub meant : Span → Prologue
meant p = record { symbol = p.symbol; size = p.length; end = p.end; codes = codes_in p.records }

-- a function's prologue by its rows, or the number of a no
abbrev pub by_rows : Machine → Function → Result Prologue
by_rows m f = onward (codes_of m f) λ cs. good (prologue_of f cs)

-- function k's prologue
unfoldable pub result_at : Source → (fs list : List ℕ) → ℕ → Result Prologue
result_at Direct fs list k = good (prologue_at fs list k)
result_at (Rows m) fs list k = by_rows m.machine.now (function_at fs list [] [] k)

-- what is found for function k
pub record FoundAt (s : Source) (fs list : List ℕ) (k : ℕ) (p : Span) : Type 0 where
  pub said : result_at s fs list k ≡ good (meant p)

abbrev pub Found : Source → (fs list : List ℕ) → ℕ → code.Result Span question.Question → Type 0
Found s fs list k (Ok p) = FoundAt s fs list k p
Found s fs list k (Err q) = result_at s fs list k ≡ bad (number_of q)

-- ---- the questions of a function

-- 21
unfoldable pub long_no : ℕ → Option ℕ
long_no size = pick (ltb size (2 ^ 32)) none (some 21)

-- 31 to 34 of the rows; and then those of the codes
unfoldable pub rows_no : Result Prologue → Option ℕ
rows_no (good p) = none
rows_no (bad n) = some n

unfoldable pub codes_no : Result Prologue → Option ℕ
codes_no (good p) = prologue_no p.end p.codes
codes_no (bad n) = some n

-- a function's prologue where it has one
unfoldable pub or_none : Result Prologue → Prologue
or_none (good p) = p
or_none (bad n) = record { symbol = 0; size = 0; end = 0; codes = [] }

abbrev pub found_at : Source → (fs list : List ℕ) → ℕ → Prologue
found_at s fs list k = or_none (result_at s fs list k)

-- every question of the first n functions is answered by yes
abbrev pub Agreed : Source → (fs list : List ℕ) → ℕ → Type 0
Agreed s fs list n = (k : ℕ) → k < n → codes_no (result_at s fs list k) ≡ none

-- all questions but those of the room, in three passes over the functions: the lengths, the rows, the codes
abbrev pub length_at : Source → (fs : List ℕ) → ℕ → Option ℕ
length_at s fs k = long_no (field (stride_of s) fs k 1)

abbrev pub rows_at : Source → (fs list : List ℕ) → ℕ → Option ℕ
rows_at s fs list k = rows_no (result_at s fs list k)

abbrev pub codes_at : Source → (fs list : List ℕ) → ℕ → Option ℕ
codes_at s fs list k = codes_no (result_at s fs list k)

unfoldable pub asks_of : Source → (fs list : List ℕ) → ℕ → Question
asks_of s fs list n =
    and_then (ask_each (length_at s fs) 0 n) (and_then (ask_each (rows_at s fs list) 0 n) (ask_each (codes_at s fs list) 0 n))

abbrev pub table_of : Source → (fs list : List ℕ) → ℕ → Written
table_of s fs list n = x64 (each (found_at s fs list) 0 n)
