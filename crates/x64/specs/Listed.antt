-- What is known of the lists once questions 11 to 13 were answered by yes: each function's records are there.
use Rattle.std.specs.Prelude.{ℕ, ◌+◌, ◌*◌, ◌^◌, ◌≤◌, ◌<◌, List, length}
use denote.Struct.Props as logic
use Rattle.format.specs.Lists.{field, function_stride, prologue_stride, code_stride, count, most_records, most_functions}
use Rattle.header_keys.specs.Functions.{RowsReady}
use Rattle.prologue.specs.Given.{rows_in}
use Rattle.x64.specs.declared.given.Records.{Records}
use Rattle.x64.specs.declared.given.Records.TheVariants.{Codes, ByRows}
use Rattle.x64.specs.declared.given.Source.{Source}
use Rattle.x64.specs.declared.given.Source.TheVariants.{Direct, Rows}

-- how many records say a function's codes
unfoldable pub records_in : Records → ℕ
records_in (Codes list) = count code_stride list.now
records_in (ByRows m p) = rows_in p.rows

-- how many numbers the record of a function has
unfoldable pub stride_of : Source → ℕ
stride_of Direct = prologue_stride
stride_of (Rows m) = function_stride

-- the records of function k of the lists are there
unfoldable pub ListedAt : Source → (fs list : List ℕ) → ℕ → Type 0
ListedAt Direct fs list k = (field prologue_stride fs k 3 + field prologue_stride fs k 4 ≤ count code_stride list) × (field prologue_stride fs k 4 ≤ most_records)
ListedAt (Rows m) fs list k = RowsReady list (field function_stride fs k 2) (field function_stride fs k 3) × (field function_stride fs k 3 ≤ most_records)

pub ListedAt-prop : (s : Source) (fs list : List ℕ) (k : ℕ) → IsProp (ListedAt s fs list k)
unfolding ListedAt
ListedAt-prop Direct fs list k = Prim.hlevel logic.props
ListedAt-prop (Rows m) fs list k = Prim.hlevel logic.props

-- function k of the lists can be read
pub record Askable (s : Source) (fs list : List ℕ) (k : ℕ) : Type 0 where
  pub within : stride_of s * k + stride_of s ≤ length fs
  pub symbol : field (stride_of s) fs k 0 < 2 ^ 32
  pub records : ListedAt s fs list k

-- and the first n
pub record Listed (s : Source) (fs list : List ℕ) (n : ℕ) : Type 0 where
  pub most : n ≤ most_functions
  pub whole : stride_of s * n ≤ length fs
  pub each_one : (k : ℕ) → k < n → Askable s fs list k

pub Listed-prop : (s : Source) (fs list : List ℕ) (n : ℕ) → IsProp (Listed s fs list n)
Listed-prop s fs list n = Prim.hlevel (logic.props, ListedAt-prop)
