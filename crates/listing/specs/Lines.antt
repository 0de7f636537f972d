-- The rules at every location of a record, in one run over its header's operations and its own (document 01, "Rules and row check"; DWARF 5, 6.4.1:
-- a table with a row for each location). Question 65 is not asked: what the operations say past the function's end is listed too.
use Rattle.std.specs.Prelude.{◌≡◌, ℕ, zero, suc, ◌+◌, ◌-◌, ◌*◌, ◌^◌, Bool, true, false, List, [], ◌∷◌, ◌++◌, length, leb, eqb}
use Rattle.std.proofs.Math.Option.{none, some}
use Rattle.format.specs.Prelude.{pick, Read, Result, good, bad}
use Rattle.format.specs.Put.{put}
use Rattle.format.specs.Answers.{cfa_numbers, rule_numbers, bit}
use Rattle.format.specs.Rows.{read_operation}
use Rattle.format.specs.Rules.{State, blank, act, rules_for}
use Rattle.format.specs.declared.Operation.{Operation}
use Rattle.format.specs.declared.Operation.TheVariants.{Nop, Step, Does}
use Rattle.format.specs.declared.Rule.{Rule}
use Rattle.format.specs.declared.Rules.{Rules}
use Rattle.reader.specs.Spans.{part}
use Rattle.reader.specs.Finds.{in_section}
use Rattle.reads.specs.declared.Located.{Located}
use Rattle.reads.specs.Places.{reader_places}
use Rattle.listing.specs.declared.Listed.{Listed}

-- what holds from an offset on: the rules up to where the next line starts; these rules from there on; or the question by which the reader refuses from there on
pub data Lines : Type 0 where
  line : (at : ℕ) → State → Lines → Lines
  last : (at : ℕ) → State → Lines
  ended : (at number : ℕ) → Lines

-- the largest offset that can be asked for
abbrev pub highest : ℕ
highest = 2 ^ 64 - 1

-- 66: an operation that cannot be read
unfoldable pub when_read : {A : Type 0} → (at : ℕ) → Read A → (A → List ℕ → Lines) → Lines
when_read at none k = ended at 66
when_read at (some x) k = k x.0 x.1

-- 67 to 69: a row that is refused
unfoldable pub when_acted : (at : ℕ) → Result State → (State → Lines) → Lines
when_acted at (good s) k = k s
when_acted at (bad n) k = ended at n

-- 66 in a header; in a record a step ends a line, but not one of 0, whose line would hold nowhere, nor one past every offset
unfoldable pub stepping : (header : Bool) (n at : ℕ) → State → (ℕ → State → Lines) → Lines
stepping header n at s more =
    pick header (ended at 66) (pick (eqb n 0) (more at s) (pick (leb (at + n) highest) (line at s (more (at + n) s)) (last at s)))

-- the place, the state and the bytes left after an operation go on in `more`, as in the reader's run
unfoldable pub doing : (header : Bool) (initial : ℕ → Rule) → Operation → ℕ → State → (ℕ → State → Lines) → Lines
doing header initial Nop at s more = more at s
doing header initial (Step n) at s more = stepping header n at s more
doing header initial (Does row) at s more = when_acted at (act header initial row s) (more at)

-- the lines of an entry's operations and then those of `k`; an operation has a byte at least, so the length is fuel enough
unfoldable pub lines_f : (header : Bool) (word : ℕ) (initial : ℕ → Rule) (k : ℕ → State → Lines) → ℕ → ℕ → State → List ℕ → Lines
lines_f header word initial k zero at s bs = k at s
lines_f header word initial k (suc f) at s [] = k at s
lines_f header word initial k (suc f) at s (b ∷ bs) =
    when_read at (read_operation word (b ∷ bs)) λ op r. doing header initial op at s λ at' t. lines_f header word initial k f at' t r

unfoldable pub record_lines : (word : ℕ) (r : List ℕ) → ℕ → State → Lines
record_lines word r at s = lines_f false word s.current.rules last (length r) at s r

-- the header's operations h, and then the record's r
unfoldable pub lines_of : (word : ℕ) (h r : List ℕ) → Lines
lines_of word h r = lines_f true word blank.current.rules (record_lines word r) (length h) 0 blank h

-- ---- as numbers

-- how many numbers a line has
abbrev pub line_stride : ℕ
line_stride = 7

-- its offset, and the numbers of a reading behind the question's
unfoldable pub line_numbers : ℕ → Rules → List ℕ
line_numbers at a = at ∷ (cfa_numbers a.cfa ++ (rule_numbers a.rule ++ (bit a.signing ∷ [])))

unfoldable pub numbers_of : ℕ → Lines → List ℕ
numbers_of q (line at s rest) = line_numbers at (rules_for q s.current) ++ numbers_of q rest
numbers_of q (last at s) = line_numbers at (rules_for q s.current)
numbers_of q (ended at n) = []

unfoldable pub count_of : Lines → ℕ
count_of (line at s rest) = suc (count_of rest)
count_of (last at s) = 1
count_of (ended at n) = 0

-- the question that ended the run, and from where on; 0 where none did
unfoldable pub ending_of : Lines → ℕ × ℕ
ending_of (line at s rest) = ending_of rest
ending_of (last at s) = (0, 0)
ending_of (ended at n) = (n, at)

-- ---- the export

-- a refusal of the locating stays; 64: the numbers lie in the section; 54: room for a line for each byte of the record's operations, and one more
unfoldable pub along : (section : List ℕ) → Located → (room : ℕ) → Result Lines
along s l room =
    pick (eqb l.number 0)
    (pick (in_section s (reader_places l))
    (pick (leb (line_stride * (l.record_end - l.«record» + 1)) room)
    (good (lines_of l.word (part s l.header l.header_end) (part s l.«record» l.record_end)))
    (bad 54))
    (bad 64))
    (bad l.number)

unfoldable pub listed_as : Result Lines → Listed
listed_as (good ls) = record { number = 0; lines = count_of ls; ending = (ending_of ls).0; from = (ending_of ls).1 }
listed_as (bad n) = record { number = n; lines = 0; ending = 0; from = 0 }

-- the lent list at exit: the lines at its front and the rest as it was; on a refusal it is unchanged
unfoldable pub list_after : ℕ → Result Lines → List ℕ → List ℕ
list_after q (good ls) old = put old 0 (numbers_of q ls)
list_after q (bad n) old = old

-- the lines for register q are answered, and stored in a lent list
pub record Lists (q : ℕ) (a : Result Lines) (r : Listed) (old new : List ℕ) : Type 0 where
  pub answered : r ≡ listed_as a
  pub stored : new ≡ list_after q a old
