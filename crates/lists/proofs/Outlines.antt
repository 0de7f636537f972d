-- Question 13 of a function by its outline and its rows, and of the lists by their sums and their functions.
use mathlib.Core.Path.{◌≡◌, refl, sym, subst}
use Prim.Native.Nat.{ℕ, ◌+◌, ◌≤◌}
use mathlib.Core.Bool.{Bool, true, false, ◌&&◌}
use mathlib.Core.List.{List, [], ◌∷◌}
use lib.Dec.{T, leb→le}
use Rattle.format.specs.Lists.{field, function_stride, row_stride, landing_stride, count, inside, symbol_ok, mark_ok, row_ok_at, all_in, function_ok_at, lists_ok}
use Rattle.format.proofs.ListLaws.{chained}
use Rattle.lists.specs.Parts.{ranges_ok_at, named_ok_at, relaxed_ok_at, outline_ok_at, sums_ok}

swap : (a r b : Bool) → ((a && r) && b) ≡ ((a && b) && r)
swap false r b = refl
swap true false false = refl
swap true false true = refl
swap true true false = refl
swap true true true = refl

module _ (fs rows landings pairs : List ℕ) where
  pub function_is : (k : ℕ) → function_ok_at fs rows landings pairs k
      ≡ (outline_ok_at fs rows landings pairs k && all_in (row_ok_at rows) (field function_stride fs k 2) (field function_stride fs k 3))
  unfolding function_ok_at outline_ok_at ranges_ok_at named_ok_at relaxed_ok_at
  function_is k =
      let f : ℕ → ℕ = λ j. field function_stride fs k j in
      let r : Bool = all_in (row_ok_at rows) (f 2) (f 3) in
      let a : Bool = symbol_ok (f 0) && inside (f 2) (f 3) (count row_stride rows) in
      let b : Bool = a && inside (f 4) (f 5) (count landing_stride landings) in
      let c : Bool = b && mark_ok (f 6) && mark_ok (f 7) && mark_ok (f 8) in
      rw (
        swap a r (inside (f 4) (f 5) (count landing_stride landings)),
        swap b r (mark_ok (f 6)),
        swap (b && mark_ok (f 6)) r (mark_ok (f 7)),
        swap (b && mark_ok (f 6) && mark_ok (f 7)) r (mark_ok (f 8)),
        swap c r (named_ok_at fs k),
        swap (c && named_ok_at fs k) r (mark_ok (f 14)),
        swap (c && named_ok_at fs k && mark_ok (f 14)) r (relaxed_ok_at fs pairs k),
      )

  pub lists_is : lists_ok fs rows landings pairs ≡ (sums_ok fs && all_in (function_ok_at fs rows landings pairs) 0 (count function_stride fs))
  unfolding lists_ok sums_ok
  lists_is = refl

  -- rows that an outline holds to their list
  pub rows_inside : (k : ℕ) → outline_ok_at fs rows landings pairs k ≡ true
      → field function_stride fs k 2 + field function_stride fs k 3 ≤ count row_stride rows
  unfolding outline_ok_at ranges_ok_at inside
  rows_inside k e =
      let f : ℕ → ℕ = λ j. field function_stride fs k j in
      leb→le _ _ (chained (symbol_ok (f 0)) (
      inside (f 2) (f 3) (count row_stride rows) ∷ inside (f 4) (f 5) (count landing_stride landings) ∷ mark_ok (f 6) ∷ mark_ok (f 7) ∷ mark_ok (f 8)
      ∷ named_ok_at fs k ∷ mark_ok (f 14) ∷ relaxed_ok_at fs pairs k ∷ []) 1 (subst T (sym e) tt))
