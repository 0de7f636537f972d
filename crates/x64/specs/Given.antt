-- What is asked and found of the functions that are given, by the definitions of sources.
use Rattle.std.specs.Prelude.{ℕ, ◌-◌, List, ℤ}
use Rattle.std.specs.Prelude as code
use Rattle.format.specs.Prelude.{Result, each}
use Rattle.format.specs.declared.question.Question as question
use Rattle.format.specs.declared.Seh.{Seh}
use Rattle.format.specs.Lists.{Prologue}
use Rattle.format.specs.X64.{info_bytes}
use Rattle.format.specs.Questions.{Question}
use Rattle.format.specs.Writer.{Written}
use Rattle.x64.specs.Answers.{infos_of, named_at}
use Rattle.x64.specs.Listed.{stride_of, records_in}
use Rattle.x64.specs.Sources.{piece_at, moved_at, codes_from, codes_in, result_at, Found, Agreed, found_at, asks_of, table_of}
use Rattle.x64.specs.declared.given.Input.{Input}
use Rattle.x64.specs.declared.given.UnwindCodes.{UnwindCodes}
use Rattle.x64.specs.declared.given.Span.{Span}

-- ---- a function

-- what the next record yields, the distance behind it, and the codes from it on
abbrev pub next_piece : UnwindCodes → List (ℕ × Seh)
next_piece x = piece_at x.records x.sofar x.next

abbrev pub next_moved : UnwindCodes → ℤ
next_moved x = moved_at x.records x.sofar x.next

abbrev pub codes_left : UnwindCodes → List (ℕ × Seh)
codes_left x = codes_from x.records x.sofar x.next (records_in x.records - x.next)

-- its codes, and the bytes of its record
abbrev pub codes_by : Span → List (ℕ × Seh)
codes_by p = codes_in p.records

abbrev pub info_by : Span → List ℕ
info_by p = info_bytes p.end (codes_by p)

-- ---- function k of those that are given

abbrev pub result_of : Input → ℕ → Result Prologue
result_of x k = result_at x.source x.functions.now x.list.now k

abbrev pub FoundIn : Input → ℕ → code.Result Span question.Question → Type 0
FoundIn x k r = Found x.source x.functions.now x.list.now k r

-- the symbol and the length of function k
abbrev pub named_in : Input → ℕ → Prologue
named_in x k = named_at (stride_of x.source) x.functions.now k

-- ---- all of them

-- every question is answered by yes
abbrev pub AllAgreed : Input → Type 0
AllAgreed x = Agreed x.source x.functions.now x.list.now x.count

abbrev pub functions_of : Input → List Prologue
functions_of x = each (found_at x.source x.functions.now x.list.now) 0 x.count

-- the record of function k, and their records, one behind the other
abbrev pub info_in : Input → ℕ → List ℕ
info_in x k =
    let p = found_at x.source x.functions.now x.list.now k in
    info_bytes p.end p.codes

abbrev pub infos_in : Input → List ℕ
infos_in x = infos_of (functions_of x)

-- the questions, and the table where each is answered by yes
abbrev pub asks_in : Input → Question
asks_in x = asks_of x.source x.functions.now x.list.now x.count

abbrev pub table_in : Input → Written
table_in x = table_of x.source x.functions.now x.list.now x.count
