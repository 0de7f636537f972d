-- The numbers of a list of structs: those of struct i stand at its stride times i.
use mathlib.Core.Path.{◌≡◌, ap, ◌∙◌}
use Prim.Native.Nat.{ℕ, zero, suc, ◌+◌, ◌*◌, ◌<◌}
use native.Mathlib.Nat.{mul-suc, mul-zero}
use native.Mathlib.Omega.{arith}
use mathlib.Core.List.{List, [], ◌∷◌, ◌++◌}
use lib.ListN.{length, get_or, get_or-append}
use lib.Seq.{get_or-append-add}
use lib.IntN.{pos}
use Rattle.format.specs.Lists.{function_stride, row_stride, count, field, row_ok_at, row_at}
use Rattle.struct_entries.specs.declared.RowAt.{RowAt}
use Rattle.struct_entries.specs.declared.Function.{Function}
use Rattle.struct_entries.specs.Structs.{row_numbers, function_numbers, numbers_of}
use Rattle.struct_entries.proofs.Stored.{length_numbers}
use Rattle.struct_entries.specs.Structs.{row_length, function_length}

-- what stands past the end
abbrev pub none : RowAt
none = record { offset = 0; kind = 0; register = 0; value = pos 0 }

-- the numbers of all rows
abbrev pub all_of : List RowAt → List ℕ
all_of ys = numbers_of row_numbers ys

-- number j of struct i of a list
number_at_lem : {A : Type 0} (one : A → List ℕ) {stride : ℕ} → ((x : A) → length (one x) ≡ stride) → (d : A) (ys : List A) (i j : ℕ) → i < length ys → j < stride
    → get_or (numbers_of one ys) (stride * i + j) 0 ≡ get_or (one (get_or ys i d)) j 0
unfolding numbers_of
number_at_lem one even d [] i j h k = absurd (omega arith)
number_at_lem one {stride} even d (y ∷ ys) zero j h k =
    let e : stride * 0 + j ≡ j = omega (arith, mul-zero stride) in
    ap (λ m. get_or (one y ++ numbers_of one ys) m 0) e ∙ get_or-append (one y) (numbers_of one ys) 0 j (omega (arith, even y))
number_at_lem one {stride} even d (y ∷ ys) (suc i) j h k =
    let e : stride * suc i + j ≡ length (one y) + (stride * i + j) = omega (arith, even y, mul-suc stride i) in
    ap (λ m. get_or (one y ++ numbers_of one ys) m 0) e ∙ get_or-append-add (one y) (numbers_of one ys) (stride * i + j) 0 ∙ number_at_lem one even d ys i j (omega arith) k

-- ---- functions

pub function_count : (fs : List Function) → count function_stride (numbers_of function_numbers fs) ≡ length fs
function_count fs = let e = length_numbers function_numbers function_length fs in omega arith

pub function_number : (fs : List Function) (k j : ℕ) (d : Function) → k < length fs → j < 18
    → field function_stride (numbers_of function_numbers fs) k j ≡ get_or (function_numbers (get_or fs k d)) j 0
function_number fs k j d h l = number_at_lem function_numbers function_length d fs k j h l

-- ---- rows

pub row_count : (ys : List RowAt) → count row_stride (all_of ys) ≡ length ys
row_count ys = let e = length_numbers row_numbers row_length ys in omega arith

row_number : (ys : List RowAt) (i j : ℕ) → i < length ys → j < 4 → field row_stride (all_of ys) i j ≡ get_or (row_numbers (get_or ys i none)) j 0
row_number ys i j h l = number_at_lem row_numbers row_length none ys i j h l

module _ (ys : List RowAt) (i : ℕ) (h : i < length ys) where
  pub row_ok : row_ok_at (all_of ys) i ≡ row_ok_at (row_numbers (get_or ys i none)) 0
  unfolding row_ok_at
  row_ok = rw (row_number ys i 1 h (omega arith), row_number ys i 2 h (omega arith), row_number ys i 3 h (omega arith))

  pub row_at_here : row_at (all_of ys) i ≡ row_at (row_numbers (get_or ys i none)) 0
  unfolding row_at
  row_at_here = rw (row_number ys i 0 h (omega arith), row_number ys i 1 h (omega arith), row_number ys i 2 h (omega arith), row_number ys i 3 h (omega arith))
