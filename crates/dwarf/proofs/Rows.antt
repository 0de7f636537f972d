-- Questions 23 to 25 asked row by row and pair by pair.
use mathlib.Core.Path.{◌≡◌, refl, sym, ap, ◌∙◌}
use Prim.Native.Nat.{ℕ, zero, suc, ◌+◌, ◌-◌, ◌^◌, ◌≤◌, ◌<◌}
use native.Mathlib.Omega.{arith}
use native.Mathlib.Numerals.{add-one}
use mathlib.Core.Bool.{Bool, true, false, not, ◌&&◌}
use mathlib.Core.List.{List}
use borrow.Author.Tests.{le-leb, lt-leb, ltb-true, ltb-false}
use lib.Dec.{T, leb, ltb}
use Rattle.format.specs.Prelude.{all, each}
use Rattle.format.specs.Lists.{field, row_stride, row_at, all_in, row_ok_at}
use Rattle.format.specs.Questions.{steps_ok}
use Rattle.format.proofs.ListLaws.{in_range}
use Rattle.lists.proofs.Answers.{accepted, refused}
use Rattle.header_keys.specs.Functions.{RowsReady}

-- a test of each record that stands at a range of numbers
pub all_in_lem : {A : Type 0} (f : A → Bool) (g : ℕ → A) (at n : ℕ) → all_in (λ i. f (g i)) at n ≡ all f (each g at n)
unfolding all_in all each
all_in_lem f g at zero = refl
all_in_lem f g at (suc n) = ap (λ (b : Bool). f (g at) && b) (all_in_lem f g (suc at) n)

-- row i of a range is a row
pub row_ready : {rows : List ℕ} {at n : ℕ} → RowsReady rows at n → (i : ℕ) → at ≤ i → i < at + n → T (row_ok_at rows i)
row_ready {rows} {at} {n} r i l h =
    let e : at + (i - at) ≡ i = omega arith in
    rw e at (in_range (row_ok_at rows) at n (i - at) r.ok (omega arith))

-- at row i of the n from `at` on, with the offset of the row in front of it, what is left decides
pub record Stepping (rows : List ℕ) (at n from i : ℕ) : Type 0 where
  pub low : at ≤ i
  pub high : i ≤ at + n
  pub rest : steps_ok 0 (each (row_at rows) at n) ≡ steps_ok from (each (row_at rows) i (at + n - i))

pub start : (rows : List ℕ) (at n : ℕ) → Stepping rows at n 0 at
start rows at n =
    record { low = omega arith; high = omega arith; rest = let e : n ≡ at + n - at = omega arith in ap (λ (k : ℕ). steps_ok 0 (each (row_at rows) at k)) e }

module _ {rows : List ℕ} {at n from i to : ℕ} (a : Stepping rows at n from i) (h : i < at + n) (e : to ≡ field row_stride rows i 0) where
  here : steps_ok 0 (each (row_at rows) at n) ≡ leb from to && ltb (to - from) (2 ^ 32) && steps_ok to (each (row_at rows) (i + 1) (at + n - (i + 1)))
  unfolding steps_ok each row_at
  here =
      let l : at + n - i ≡ suc (at + n - suc i) = omega arith in
      a.rest ∙ rw (add-one i, l, e)

  pub turn : from ≤ to → to - from < 2 ^ 32 → Stepping rows at n to (i + 1)
  turn f g = record { low = omega arith; high = omega arith; rest = here ∙ simp (le-leb from to f, le-leb (suc (to - from)) (2 ^ 32) g) }

  pub back : to < from → false ≡ steps_ok 0 (each (row_at rows) at n)
  back f = sym (here ∙ simp (lt-leb from to f))

  pub far : from ≤ to → 2 ^ 32 ≤ to - from → false ≡ steps_ok 0 (each (row_at rows) at n)
  far f g = sym (here ∙ simp (le-leb from to f, lt-leb (suc (to - from)) (2 ^ 32) (omega arith)))

-- by the code's test of a step
pub too_far : {r : Bool} {d : ℕ} → r ≡ ltb d (2 ^ 32) → not r ≡ true → 2 ^ 32 ≤ d
too_far {r} {d} e t = ltb-false d (2 ^ 32) (refused e t)

pub near_enough : {r : Bool} {d : ℕ} → r ≡ ltb d (2 ^ 32) → not r ≡ false → d < 2 ^ 32
near_enough {r} {d} e t = ltb-true d (2 ^ 32) (accepted e t)

pub ended : {rows : List ℕ} {at n from i : ℕ} → Stepping rows at n from i → at + n ≤ i → true ≡ steps_ok 0 (each (row_at rows) at n)
unfolding steps_ok each
ended {rows} {at} {n} {from} {i} a h =
    let e : at + n - i ≡ 0 = omega arith in
    sym (a.rest ∙ rw e)
