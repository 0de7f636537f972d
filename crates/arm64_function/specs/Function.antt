-- A function that the code has taken out of the lists, and what the other definitions here say of it.
use Rattle.std.specs.Prelude.{◌≡◌, Bool, List, ℕ, ◌+◌, ◌-◌, ◌/◌, ◌≤◌, ◌<◌, Option}
use Rattle.format.specs.Lists.{field}
use Rattle.arm64.specs.declared.Code.{Code}
use Rattle.arm64_header.specs.declared.Header.{Header}
use Rattle.arm64.specs.Lists.{function_stride}
use Rattle.arm64_lists.specs.declared.Lists.{Lists}
use Rattle.arm64_function.specs.declared.Function.{Function}
use Rattle.arm64_function.specs.declared.Shape.{Shape}
use Rattle.arm64_function.specs.Own.{parts_at, epilogue_at, prologue_in, run_at, own_at, own_in, codes_in, index_at, words_from, parts_ok, Nearest, Known, Ahead}
use Rattle.arm64_function.specs.PackedWord.{shared_in, packed_at, Only}
use Rattle.arm64_function.specs.Record.{Whole, single_at, Shaped, scopes_at, record_at}

-- it is function k of the lists
pub record Taken (x : Lists) (k : ℕ) (f : Function) : Type 0 where
  pub epilogues : f.epilogues.now ≡ x.epilogues.now
  pub codes : f.codes.now ≡ x.codes.now
  pub parts : f.parts ≡ parts_at x.functions.now k
  pub size : f.size ≡ field function_stride x.functions.now k 1

-- epilogue i is one of its own
abbrev pub Among : Function → ℕ → Type 0
Among f i = (f.parts.first ≤ i) × (i < f.parts.end)

-- it has one epilogue, and every question has been asked
abbrev pub OnlyOne : Function → Type 0
OnlyOne f = Only f.epilogues.now f.codes.now f.parts f.size

-- every question has been asked
abbrev pub WholeOf : Function → Type 0
WholeOf f = Whole f.epilogues.now f.codes.now f.parts f.size

-- ---- runs as they are written

abbrev pub prologue_of : Function → List Code
prologue_of f = prologue_in f.codes.now f.parts

abbrev pub run_of : Function → ℕ → List Code
run_of f i = run_at f.epilogues.now f.codes.now i

abbrev pub own_of : Function → ℕ → List (List Code)
own_of f i = own_at f.epilogues.now f.codes.now f.parts i

abbrev pub owns_of : Function → List (List Code)
owns_of f = own_in f.epilogues.now f.codes.now f.parts

abbrev pub codes_of : Function → List ℕ
codes_of f = codes_in f.epilogues.now f.codes.now f.parts

abbrev pub index_of : Function → ℕ → ℕ
index_of f i = index_at f.epilogues.now f.codes.now f.parts i

abbrev pub NearestOf : Function → (i j : ℕ) → Type 0
NearestOf f i j = Nearest f.epilogues.now f.codes.now f.parts i j

-- ---- question 83, the packed word, and the record

abbrev pub values_ok_of : Function → Bool
values_ok_of f = parts_ok f.epilogues.now f.codes.now f.parts

abbrev pub shared_of : Function → (i left : ℕ) → Bool
shared_of f i left = shared_in f.codes.now left f.parts.prologue (epilogue_at f.epilogues.now i)

abbrev pub packed_of : Function → Option ℕ
packed_of f = packed_at f.epilogues.now f.codes.now f.parts f.size

abbrev pub words_of : Function → List ℕ
words_of f = words_from f.epilogues.now f.codes.now f.parts f.parts.first (f.parts.end - f.parts.first)

abbrev pub KnownOf : Function → List ℕ → (to i : ℕ) → Type 0
KnownOf f xs to i = Known xs to f.epilogues.now f.codes.now f.parts i

abbrev pub AheadOf : Function → (next i : ℕ) → Type 0
AheadOf f next i = Ahead f.epilogues.now f.codes.now f.parts next i

abbrev pub single_of : Function → Bool
single_of f = single_at f.epilogues.now f.codes.now f.parts f.size

abbrev pub ShapedOf : Function → Shape → Type 0
ShapedOf f s = Shaped f.epilogues.now f.codes.now f.parts f.size s

-- the header of a record of that shape
abbrev pub header_of : Function → Shape → Header
header_of f s = record { length = f.size / 4; epilogues = s.epilogues; words = (s.codes + 3) / 4 }

abbrev pub scopes_of : Function → (single : Bool) → List ℕ
scopes_of f single = scopes_at f.epilogues.now f.codes.now f.parts single

abbrev pub record_of : Function → List ℕ
record_of f = record_at f.epilogues.now f.codes.now f.parts f.size
