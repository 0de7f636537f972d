-- What is read from the rows that are given, by the definitions of rows and pieces.
use Rattle.std.specs.Prelude.{ℕ, ◌<◌, List, ℤ}
use Rattle.format.specs.Prelude.{Result, each}
use Rattle.format.specs.declared.Row.{Row}
use Rattle.format.specs.declared.Seh.{Seh}
use Rattle.format.specs.Lists.{count, row_stride, row_at}
use Rattle.prologue.specs.declared.Walk.{Walk}
use Rattle.prologue.specs.declared.given.Registers.{Registers}
use Rattle.prologue.specs.declared.given.X64Machine.{X64Machine}
use Rattle.prologue.specs.declared.given.FunctionRows.{FunctionRows}
use Rattle.prologue.specs.declared.given.Shape.{Shape}
use Rattle.prologue.specs.Groups.{last_in, row_in, walk_from, start}
use Rattle.prologue.specs.Pieces.{piece_in}

-- how many rows there are, and row i is one of them
abbrev pub rows_in : FunctionRows → ℕ
rows_in x = count row_stride x.rows.now

abbrev pub IsRow : FunctionRows → ℕ → Type 0
IsRow x i = i < rows_in x

abbrev pub rows_of : FunctionRows → List (ℕ × Row)
rows_of x = each (row_at x.rows.now) 0 (rows_in x)

-- row i read, as the last of its instruction's; and as any
abbrev pub last_of : X64Machine → FunctionRows → (i : ℕ) → Walk → Result Walk
last_of m x i w = last_in m.machine.now x.rows.now 0 (rows_in x) i w

abbrev pub row_of : X64Machine → FunctionRows → (i : ℕ) → Walk → Result Walk
row_of m x i w = row_in m.machine.now x.rows.now 0 (rows_in x) i w

-- and all of them
abbrev pub walk_of : X64Machine → FunctionRows → Result Walk
walk_of m x = walk_from m.machine.now x.rows.now 0 (rows_in x) 0 (rows_in x) (start m.machine.now)

-- the code of row i of a prologue's, or none
abbrev pub piece_at : Registers → Shape → (i : ℕ) → (sofar : ℤ) → List (ℕ × Seh)
piece_at m x i sofar = piece_in m.machine.now x.below sofar x.rows.rows.now 0 i (rows_in x.rows)
