-- The codes of a prologue one by one: what a row that ends an instruction yields. Where a row is no prologue's, what it yields means nothing.
use Rattle.std.specs.Prelude.{◌≡◌, ℕ, zero, suc, ◌+◌, ◌-◌, ◌*◌, ◌^◌, ◌≤◌, ◌<◌, Bool, List, [], ◌∷◌, ◌++◌, length, take, T, leb, eqb, Option, Some, None, Ok, Err, ℤ, pos, ◌-ℤ◌}
use Rattle.std.specs.Prelude as code
use Rattle.format.specs.Prelude.{pick, Result, good, bad, onward, each}
use Rattle.format.specs.declared.Machine.{Machine}
use Rattle.format.specs.Machine.{Register, register_of}
use Rattle.format.specs.declared.Row.{Row}
use Rattle.format.specs.declared.Seh.{Seh}
use Rattle.format.specs.Rows.{kind_of, reg_of, offset_of}
use Rattle.format.specs.Lists.{Function, count, row_stride, row_at}
use Rattle.format.specs.Numbers.{number_of}
use Rattle.format.specs.declared.question.Question.{Question}
use Rattle.format.specs.X64.{Step, push, alloc, frame, save, low16, before_remember, code_for, codes_of, end_of}
use Rattle.codes.specs.declared.UnwindCode.{UnwindCode}
use Rattle.prologue.specs.declared.given.Shape.{Shape}
use Rattle.prologue.specs.Readable.{Short}
use Rattle.prologue.specs.Groups.{joined, joins}

-- ---- what the lists hold

-- the rows of a list, and those before the first RememberState, which lead it
abbrev pub all_rows : List ℕ → List (ℕ × Row)
all_rows rows = each (row_at rows) 0 (count row_stride rows)

pub record Leads (rows front : List ℕ) : Type 0 where
  pub taken : front ≡ take (length front) rows
  pub before : before_remember (all_rows rows) ≡ all_rows front

-- ---- a row

-- the distance behind a row, and behind row i
unfoldable pub moved_by : (sofar : ℤ) → Row → ℤ
moved_by sofar r = pick (eqb (kind_of r) 1) (offset_of r) sofar

unfoldable pub moved_in : (sofar : ℤ) (rows : List ℕ) (i : ℕ) → ℤ
moved_in sofar rows i = moved_by sofar (row_at rows i).1

-- The step that a row ends: DefCfaOffset an allocation, or none where Offset follows; Offset a push behind DefCfaOffset, else a save;
-- DefCfa and DefCfaRegister a frame.
unfoldable pub row_step : (off : ℕ) (sofar : ℤ) (joins joined : Bool) → Row → List (ℕ × Step)
row_step off sofar joins joined r =
    pick (eqb (kind_of r) 1) (pick joins [] ((off, alloc (offset_of r -ℤ sofar)) ∷ []))
    (pick (eqb (kind_of r) 3) (pick joined ((off, push (reg_of r)) ∷ []) ((off, save (reg_of r) (offset_of r)) ∷ []))
    (pick (leb (kind_of r) 2) ((off, frame) ∷ []) []))

unfoldable pub step_in : (sofar : ℤ) (rows : List ℕ) (at i end : ℕ) → List (ℕ × Step)
step_in sofar rows at i end = row_step (row_at rows i).0 sofar (joins rows i end) (joined rows at i) (row_at rows i).1

-- a code, where the machine has its register
unfoldable pub code_in : (off : ℕ) → Result Seh → List (ℕ × Seh)
code_in off (good c) = (off, c) ∷ []
code_in off (bad n) = []

unfoldable pub codes_in : Machine → (below : ℤ) → List (ℕ × Step) → List (ℕ × Seh)
codes_in m below [] = []
codes_in m below (x ∷ xs) = code_in x.0 (code_for m below x.1) ++ codes_in m below xs

-- Row i of the rows from `at` to `end`, with the distance `sofar` in front of it and `below` behind all: a code at its offset, or none.
unfoldable pub piece_in : Machine → (below sofar : ℤ) (rows : List ℕ) (at i end : ℕ) → List (ℕ × Seh)
piece_in m below sofar rows at i end = codes_in m below (step_in sofar rows at i end)

-- n rows from i on
unfoldable pub pieces_from : Machine → (below sofar : ℤ) (rows : List ℕ) (at i end n : ℕ) → List (ℕ × Seh)
pieces_from m below sofar rows at i end zero = []
pieces_from m below sofar rows at i end (suc n) = piece_in m below sofar rows at i end ++ pieces_from m below (moved_in sofar rows i) rows at (suc i) end n

-- where the prologue of the rows from `at` to `end` ends
unfoldable pub end_in : (rows : List ℕ) (at end : ℕ) → ℕ
end_in rows at end = pick (leb end at) 0 (row_at rows (end - 1)).0

-- what an answer of `piece_at` holds, as a list
unfoldable pub piece_of : Option UnwindCode → List (ℕ × Seh)
piece_of None = []
piece_of (Some x) = (x.offset, x.code) ∷ []

-- a code that names a register
unfoldable pub named_code : Machine → (off reg : ℕ) → (Register → Seh) → List (ℕ × Seh)
named_code m off reg f = code_in off (onward (low16 (register_of m reg)) λ r. good (f r))

-- ---- the prologue of a function's rows

-- all of the codes of its rows, with the distance `below` behind them
abbrev pub pieces_of : Machine → (below : ℤ) (front : List ℕ) → List (ℕ × Seh)
pieces_of m below front = pieces_from m below (pos m.pushed) front 0 0 (count row_stride front) (count row_stride front)

-- what a function's rows say, for a function of these rows: its codes, by the rows that lead them
pub record Says (m : Machine) (rows : List ℕ) (below : ℤ) (front : List ℕ) : Type 0 where
  pub leads : Leads rows front
  pub short : Short below
  pub codes : (f : Function) → f.rows ≡ all_rows rows → codes_of m f ≡ good (pieces_of m below front)
  pub last : end_of 0 (pieces_of m below front) ≡ end_in front 0 (count row_stride front)

-- or the question that was answered by no
abbrev pub Shaped : Machine → (rows : List ℕ) → code.Result Shape Question → Type 0
Shaped m rows (Ok r) = Says m rows r.below r.rows.rows.now
Shaped m rows (Err q) = (f : Function) → f.rows ≡ all_rows rows → codes_of m f ≡ bad (number_of q)
