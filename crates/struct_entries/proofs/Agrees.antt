-- The check over structs and the check over lists of numbers are one: a function that has a part of the rows, wherever it starts, has the same answer.
use mathlib.Core.Path.{◌≡◌, refl, sym, ap, ◌∙◌}
use Prim.Native.Nat.{ℕ, zero, suc, ◌+◌, ◌≤◌, ◌<◌}
use native.Mathlib.Nat.{add-zero, zero-add}
use native.Mathlib.Omega.{arith}
use mathlib.Core.Bool.{Bool, ◌&&◌, and-true}
use mathlib.Core.List.{List}
use lib.ListN.{length, get_or, take, drop, length-drop}
use lib.Seq.{length-take-le, get_or-take, get_or-drop}
use borrow.Author.Tests.{le-leb, lt-ltb}
use Rattle.format.specs.Prelude.{each}
use Rattle.format.specs.Lists.{function_stride, field, count, inside, all_in, row_ok_at, row_at, mark_ok}
use Rattle.format.specs.RowCheck.{row_check_at}
use Rattle.lists.proofs.Ranges.{none_left, one_more}
use Rattle.struct_entries.specs.declared.RowAt.{RowAt}
use Rattle.struct_entries.specs.declared.Function.{Function}
use Rattle.struct_entries.specs.Structs.{row_numbers, function_numbers, numbers_of}
use Rattle.struct_entries.specs.Checks.{check_numbers, check_of}
use Rattle.struct_entries.proofs.Meaning.{none, all_of, row_count, row_ok, row_at_here, function_count, function_number}

-- ---- two ranges that hold the same

all_same : (t u : ℕ → Bool) (a b n : ℕ) → ((i : ℕ) → i < n → t (a + i) ≡ u (b + i)) → all_in t a n ≡ all_in u b n
all_same t u a b zero h = none_left t a ∙ sym (none_left u b)
all_same t u a b (suc n) h =
    let e : t a ≡ u b = ap t (sym (add-zero a)) ∙ h 0 (omega arith) ∙ ap u (add-zero b) in
    let rest : all_in t (suc a) n ≡ all_in u (suc b) n = all_same t u (suc a) (suc b) n (λ i l. let p : suc a + i ≡ a + suc i = omega arith in let q : b + suc i ≡ suc b + i = omega arith in ap t p ∙ h (suc i) (omega arith) ∙ ap u q) in
    one_more t a n ∙ ap (λ (x : Bool). x && all_in t (suc a) n) e ∙ ap (λ (x : Bool). u b && x) rest ∙ sym (one_more u b n)

each_same : {A : Type 0} (t u : ℕ → A) (a b n : ℕ) → ((i : ℕ) → i < n → t (a + i) ≡ u (b + i)) → each t a n ≡ each u b n
unfolding each
each_same t u a b zero h = refl
each_same t u a b (suc n) h =
    let e : t a ≡ u b = ap t (sym (add-zero a)) ∙ h 0 (omega arith) ∙ ap u (add-zero b) in
    let rest : each t (suc a) n ≡ each u (suc b) n = each_same t u (suc a) (suc b) n (λ i l. let p : suc a + i ≡ a + suc i = omega arith in let q : b + suc i ≡ suc b + i = omega arith in ap t p ∙ h (suc i) (omega arith) ∙ ap u q) in
    cc

module _ (ys : List RowAt) (a n : ℕ) (h : a + n ≤ length ys) where
  abbrev zs : List RowAt
  zs = take n (drop a ys)

  long : length zs ≡ n
  long = length-take-le n (drop a ys) (omega (arith, length-drop a ys))

  there : (i : ℕ) → i < n → get_or ys (a + i) none ≡ get_or zs i none
  there i l = sym (get_or-take n (drop a ys) i none l ∙ get_or-drop a ys i none)

  part_ok : (i : ℕ) → i < n → row_ok_at (all_of ys) (a + i) ≡ row_ok_at (all_of zs) (0 + i)
  part_ok i l =
      row_ok ys (a + i) (omega arith) ∙ ap (λ (x : RowAt). row_ok_at (row_numbers x) 0) (there i l) ∙ sym (row_ok zs i (omega (arith, long)))
      ∙ ap (row_ok_at (all_of zs)) (sym (zero-add i))

  part_row : (i : ℕ) → i < n → row_at (all_of ys) (a + i) ≡ row_at (all_of zs) (0 + i)
  part_row i l =
      row_at_here ys (a + i) (omega arith) ∙ ap (λ (x : RowAt). row_at (row_numbers x) 0) (there i l) ∙ sym (row_at_here zs i (omega (arith, long)))
      ∙ ap (row_at (all_of zs)) (sym (zero-add i))

  pub all_there : all_in (row_ok_at (all_of ys)) a n ≡ all_in (row_ok_at (all_of zs)) 0 n
  all_there = all_same (row_ok_at (all_of ys)) (row_ok_at (all_of zs)) a 0 n part_ok

  pub each_there : each (row_at (all_of ys)) a n ≡ each (row_at (all_of zs)) 0 n
  each_there = each_same (row_at (all_of ys)) (row_at (all_of zs)) a 0 n part_row

module _ (fs : List ℕ) (ys : List RowAt) (k : ℕ) where
  -- where function k's rows start, and how many they are
  abbrev a : ℕ
  a = field function_stride fs k 2

  abbrev n : ℕ
  n = field function_stride fs k 3

  pub agrees : k < count function_stride fs → a + n ≤ length ys → row_check_at fs (all_of ys) k ≡ check_of (field function_stride fs k 6) (take n (drop a ys))
  unfolding row_check_at check_of check_numbers inside
  agrees h b =
      rw (lt-ltb k (count function_stride fs) h, row_count ys, le-leb (a + n) (length ys) b, and-true (mark_ok (field function_stride fs k 6)), row_count (take n (drop a ys)), long ys a n b, all_there ys a n b, each_there ys a n b)

-- the same of a function struct
pub agrees_of : (fs : List Function) (ys : List RowAt) (k : ℕ) (d : Function) → k < length fs → (get_or fs k d).rows_at + (get_or fs k d).rows ≤ length ys
    → row_check_at (numbers_of function_numbers fs) (numbers_of row_numbers ys) k ≡ check_of (get_or fs k d).simple (take (get_or fs k d).rows (drop (get_or fs k d).rows_at ys))
unfolding function_numbers
agrees_of fs ys k d h b =
    let F : List ℕ = numbers_of function_numbers fs in
    let e2 : field function_stride F k 2 ≡ (get_or fs k d).rows_at = function_number fs k 2 d h (omega arith) in
    let e3 : field function_stride F k 3 ≡ (get_or fs k d).rows = function_number fs k 3 d h (omega arith) in
    let e6 : field function_stride F k 6 ≡ (get_or fs k d).simple = function_number fs k 6 d h (omega arith) in
    agrees F ys k (omega (arith, function_count fs)) (omega (arith, e2, e3))
    ∙ ap (λ (s : ℕ). check_of s (take (field function_stride F k 3) (drop (field function_stride F k 2) ys))) e6
    ∙ ap (λ (m : ℕ). check_of (get_or fs k d).simple (take m (drop (field function_stride F k 2) ys))) e3
    ∙ ap (λ (m : ℕ). check_of (get_or fs k d).simple (take (get_or fs k d).rows (drop m ys))) e2
