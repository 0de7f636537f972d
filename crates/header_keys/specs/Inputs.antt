-- What the passes over a section's functions read, and a function's record out of it.
use Rattle.std.specs.Prelude.{ℕ, List}
use Rattle.format.specs.declared.Machine.{Machine}
use Rattle.format.specs.declared.Section.{Section}
use Rattle.format.specs.Prelude.{each}
use Rattle.format.specs.Rows.{RowAt}
use Rattle.format.specs.Lists.{Function, row_at, count, function_stride}
use Rattle.lists.specs.declared.Extent.{Extent}
use Rattle.lists.specs.Extents.{extent_at, meant}
use Rattle.header_keys.specs.declared.input.Input.{Input}
use Rattle.header_keys.specs.Functions.{taken_in, RowsReady, Listed}

-- what a pass goes over: a section of a machine's functions
pub record Inputs : Type 0 where
  pub section : Section
  pub machine : Machine
  pub functions : List ℕ
  pub rows : List ℕ
  pub landings : List ℕ
  pub pairs : List ℕ

abbrev pub inputs : Section → Machine → (functions rows landings pairs : List ℕ) → Inputs
inputs s m functions rows landings pairs =
    record { section = s; machine = m; functions = functions; rows = rows; landings = landings; pairs = pairs }

abbrev pub inputs_of : Input → Inputs
inputs_of x = inputs x.section x.machine x.lists.functions.now x.lists.rows.now x.lists.landings.now x.lists.pairs.now

abbrev pub count_in : Inputs → ℕ
count_in x = count function_stride x.functions

-- the record of function k as the section takes it, and the function that it means
abbrev pub extent_in : Inputs → ℕ → Extent
extent_in x k = taken_in x.section (extent_at x.functions k)

abbrev pub function_in : Inputs → ℕ → Function
function_in x k = meant (extent_in x k) x.rows x.landings x.pairs

-- the first n functions can be read, and their rows
abbrev pub ListedTo : Inputs → ℕ → Type 0
ListedTo x n = Listed x.functions x.rows n

-- the rows of a function's record can be read; and they themselves
abbrev pub RowsIn : Inputs → Extent → Type 0
RowsIn x e = RowsReady x.rows e.rows_at e.rows

abbrev pub rows_of : Inputs → Extent → List RowAt
rows_of x e = each (row_at x.rows) e.rows_at e.rows
