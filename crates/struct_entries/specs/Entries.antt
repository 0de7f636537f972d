-- The writers over lists of structs: what they answer, by way of a lent list of numbers (document 01, "Questions, in order, and the number for a no").
use Rattle.std.specs.Prelude.{ℕ, ◌+◌, ◌*◌, Bool, not, ◌&&◌, ◌||◌, List, ◌++◌, leb, eqb, length, take, drop, replicate}
use Rattle.format.specs.Prelude.{all, pick}
use Rattle.format.specs.Machine.{machine_of, machine_ok}
use Rattle.format.specs.Lists.{function_stride, row_stride}
use Rattle.format.specs.Questions.{Question, ask, and_then, Given, given_of, Room, Answer, empty, unless, relaxed_table, relaxed_debug_frame}
use Rattle.struct_entries.specs.declared.RowAt.{RowAt}
use Rattle.struct_entries.specs.declared.Function.{Function}
use Rattle.struct_entries.specs.Structs.{row_numbers, function_numbers, numbers_of}

-- ---- the lent list

-- how many numbers so many structs take
unfoldable pub needed : (functions rows : ℕ) → ℕ
needed f r = function_stride * f + row_stride * r

unfoldable pub is_zero : ℕ → Bool
is_zero x = eqb x 0

-- the list is long enough, and what is needed of it is all zero
unfoldable pub ready_for : List ℕ → (functions rows : ℕ) → Bool
ready_for xs f r = leb (needed f r) (length xs) && all is_zero (take (needed f r) xs)

-- the first n numbers are 0
unfoldable pub cleared : List ℕ → ℕ → List ℕ
cleared xs n = replicate n 0 ++ drop n xs

-- the two lists that stand in it, one after the other, beside the others that a writer takes
unfoldable pub packed : (machine numbers : List ℕ) (functions rows : ℕ) (landings pairs : List ℕ) → Given
packed machine xs f r ls ps = given_of machine (take (function_stride * f) xs) (take (row_stride * r) (drop (function_stride * f) xs)) ls ps

-- ---- the entries

-- the numbers of the two lists of structs, one list after the other
unfoldable pub numbers_in : List Function → List RowAt → List ℕ
numbers_in fs rs = numbers_of function_numbers fs ++ numbers_of row_numbers rs

-- what the structs mean, beside the lists of numbers
unfoldable pub meant : (machine : List ℕ) → List Function → List RowAt → (landings pairs : List ℕ) → Given
meant machine fs rs ls ps = given_of machine (numbers_of function_numbers fs) (numbers_of row_numbers rs) ls ps

-- 54 of the lent list is asked behind the empty result and the questions that need none of the structs' numbers
unfoldable pub once_ready : (is_empty : Bool) → Question → (ready : Bool) → Answer → Answer
once_ready is_empty asks ready a = pick is_empty empty (unless (and_then asks (ask ready 54 0)) a)

-- relaxed_table: an empty list, Wasm and Plan 9 have an empty result; 78 of Mach-O, 11 of the format and of the machine, 12 of COFF's word
unfoldable pub table_is_empty : (format functions : ℕ) → Bool
table_is_empty format f = eqb f 0 || leb 3 format && leb format 4

unfoldable pub table_asks : (format : ℕ) (machine : List ℕ) → Question
table_asks format machine =
    and_then (ask (not (eqb format 2)) 78 0)
    (and_then (ask (leb format 4) 11 0)
    (and_then (ask (machine_ok machine) 11 0)
    (ask (not (eqb format 1) || eqb (machine_of machine).word 8) 12 0)))

unfoldable pub relaxed_table_of : (format : ℕ) (machine numbers : List ℕ) → List Function → List RowAt → (landings pairs : List ℕ) → Room → Answer
relaxed_table_of format machine xs fs rs ls ps r =
    once_ready (table_is_empty format (length fs)) (table_asks format machine) (ready_for xs (length fs) (length rs)) (relaxed_table format (meant machine fs rs ls ps) r)

-- relaxed_debug_frame: an empty list and every format but ELF have an empty result; 11 of the machine
unfoldable pub debug_frame_is_empty : (format functions : ℕ) → Bool
debug_frame_is_empty format f = eqb f 0 || not (eqb format 0)

unfoldable pub debug_frame_asks : (machine : List ℕ) → Question
debug_frame_asks machine = ask (machine_ok machine) 11 0

unfoldable pub relaxed_debug_frame_of : (format : ℕ) (machine numbers : List ℕ) → List Function → List RowAt → (landings pairs : List ℕ) → Room → Answer
relaxed_debug_frame_of format machine xs fs rs ls ps r =
    once_ready (debug_frame_is_empty format (length fs)) (debug_frame_asks machine) (ready_for xs (length fs) (length rs)) (relaxed_debug_frame format (meant machine fs rs ls ps) r)
