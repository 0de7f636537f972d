-- A function's part of the table by its word and by its record's place, and what is known of the functions of the lists.
use Rattle.std.specs.Prelude.{ℕ, ◌+◌, ◌<◌, ◌≤◌, List, [], ◌∷◌, eqb, Option}
use Rattle.std.specs.Option.{is_some}
use Rattle.format.specs.Prelude.{pick, each}
use Rattle.format.specs.Constants.{image_reloc}
use Rattle.format.specs.Lists.{Relocation, most_functions}
use Rattle.format.specs.Headers.{reloc}
use Rattle.format.specs.X64.{marker}
use Rattle.arm64.specs.Lists.{Function, numbered_function}
use Rattle.arm64.specs.Writer.{no_record}
use Rattle.arm64_lists.specs.declared.Lists.{Lists}
use Rattle.arm64_function.specs.Listed.{Listed, Fine}

-- ---- one function

-- the bytes of a row of .pdata, and the numbers of a relocation
abbrev pub row_size : ℕ
row_size = 8

abbrev pub relocation_stride : ℕ
relocation_stride = 5

-- the relocations of a row at `place`: that of the function's start, and that of its record where there is no packed word
unfoldable pub relocs_by : (place symbol : ℕ) → Option ℕ → List Relocation
relocs_by place symbol word =
    reloc place symbol image_reloc 4 0 ∷ pick (is_some word) [] (reloc (place + 4) (marker symbol) image_reloc 4 0 ∷ [])

-- how many they are, by the bytes of the record: a packed function has none
unfoldable pub reloc_count : (size : ℕ) → ℕ
reloc_count size = pick (eqb size 0) 1 2

-- the marker of a function whose record stands from `at` to `past`
unfoldable pub mark_by : (at past : ℕ) → ℕ
mark_by at past = pick (eqb past at) no_record at

-- ---- all functions

-- the first n functions of the lists
abbrev pub first_of : (fs es cs : List ℕ) → ℕ → List Function
first_of fs es cs n = each (numbered_function fs es cs) 0 n

-- and of the lists as they are lent
abbrev pub first_in : Lists → ℕ → List Function
first_in x n = first_of x.functions.now x.epilogues.now x.codes.now n

-- they can be read
pub record AllListed (fs es cs : List ℕ) (n : ℕ) : Type 0 where
  pub most : n ≤ most_functions
  pub each_one : (k : ℕ) → k < n → Listed fs es cs k

-- every question of theirs is answered by yes
pub record AllFine (fs es cs : List ℕ) (n : ℕ) : Type 0 where
  pub most : n ≤ most_functions
  pub each_one : (k : ℕ) → k < n → Fine fs es cs k

-- of the lists as they are lent
abbrev pub AllFineIn : Lists → ℕ → Type 0
AllFineIn x n = AllFine x.functions.now x.epilogues.now x.codes.now n
