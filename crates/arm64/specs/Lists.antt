-- Functions, epilogues and codes as records, and the lists of numbers that mean them: functions of 6 numbers, epilogues of 3, codes of 3.
use Rattle.std.specs.Prelude.{ℕ, ◌+◌, List, [], ◌∷◌, length}
use Rattle.format.specs.Prelude.{each}
use Rattle.format.specs.Lists.{count, field}
use Rattle.arm64.specs.declared.Code.{Code}
use Rattle.arm64.specs.Codes.{code}

-- an epilogue: where its first instruction is, in bytes from the function's start, and its codes in the order of its instructions
pub record Epilogue : Type 0 where
  pub start : ℕ
  pub codes : List Code

-- a function: its symbol, its length in bytes, the prologue's codes in the order of its instructions, and its epilogues
pub record Function : Type 0 where
  pub symbol : ℕ
  pub size : ℕ
  pub prologue : List Code
  pub epilogues : List Epilogue

-- ---- the strides; an incomplete last record is no record

-- symbol, length, prologue_at, prologue, epilogues_at, epilogues
abbrev pub function_stride : ℕ
function_stride = 6

-- start, codes_at, codes
abbrev pub epilogue_stride : ℕ
epilogue_stride = 3

-- kind, register, offset
abbrev pub code_stride : ℕ
code_stride = 3

unfoldable pub numbered_code : List ℕ → ℕ → Code
numbered_code cs i = code (field code_stride cs i 0) (field code_stride cs i 1) (field code_stride cs i 2)

unfoldable pub numbered_epilogue : (es cs : List ℕ) → ℕ → Epilogue
numbered_epilogue es cs i =
    record { start = field epilogue_stride es i 0; codes = each (numbered_code cs) (field epilogue_stride es i 1) (field epilogue_stride es i 2) }

unfoldable pub numbered_function : (fs es cs : List ℕ) → ℕ → Function
numbered_function fs es cs i =
    record {
      symbol = field function_stride fs i 0;
      size = field function_stride fs i 1;
      prologue = each (numbered_code cs) (field function_stride fs i 2) (field function_stride fs i 3);
      epilogues = each (numbered_epilogue es cs) (field function_stride fs i 4) (field function_stride fs i 5);
    }

unfoldable pub functions_of : (fs es cs : List ℕ) → List Function
functions_of fs es cs = each (numbered_function fs es cs) 0 (count function_stride fs)

-- ---- and back

unfoldable pub code_numbers : List Code → List ℕ
code_numbers [] = []
code_numbers (c ∷ cs) = c.kind ∷ c.register ∷ c.offset ∷ code_numbers cs

-- epilogues whose codes stand one run behind the other, from `at` on
unfoldable pub epilogue_numbers : (at : ℕ) → List Epilogue → List ℕ
epilogue_numbers at [] = []
epilogue_numbers at (e ∷ es) = e.start ∷ at ∷ length e.codes ∷ epilogue_numbers (at + length e.codes) es
