-- What the tests of rows next to each other say.
use mathlib.Core.Path.{◌≡◌, sym, ap, ◌∙◌}
use Prim.Native.Nat.{ℕ, suc, ◌+◌, ◌-◌, ◌≤◌, ◌<◌}
use native.Mathlib.Numerals.{add-one}
use native.Mathlib.Omega.{arith}
use mathlib.Core.Bool.{true, false, not}
use mathlib.Core.Logic.{◌≢◌}
use mathlib.Core.List.{List}
use lib.Dec.{T, ltb, eqb}
use borrow.Author.Tests.{lt-ltb, le-ltb, eq-eqb, ne_eqb}
use mir.Facts.{and_yes, ltb_yes, eqb_yes, eqb_no}
use Rattle.format.specs.Lists.{row_stride, field, row_at}
use Rattle.prologue.specs.Groups.{joined, joins, third}

module _ (rows : List ℕ) where
  pub joined_first : (at i : ℕ) → i ≤ at → joined rows at i ≡ false
  unfolding joined
  joined_first at i h = simp (le-ltb at i h)

  pub joined_is : (at i : ℕ) → at < i → joined rows at i ≡ eqb (row_at rows (i - 1)).0 (row_at rows i).0
  unfolding joined
  joined_is at i h = simp (lt-ltb at i h)

  pub joined_above : (at i : ℕ) → joined rows at i ≡ true → at < i
  unfolding joined
  joined_above at i e = ltb_yes (and_yes (ltb at i) (eqb (row_at rows (i - 1)).0 (row_at rows i).0) (rw e tt)).0

  pub joins_last : (i end : ℕ) → end ≤ suc i → joins rows i end ≡ false
  unfolding joins
  joins_last i end h = simp (le-ltb (suc i) end h)

  pub joins_is : (i end : ℕ) → suc i < end → joins rows i end ≡ eqb (row_at rows i).0 (row_at rows (suc i)).0
  unfolding joins
  joins_is i end h = simp (lt-ltb (suc i) end h)

  pub joins_yes : (i end : ℕ) → T (joins rows i end) → (suc i < end) × ((row_at rows i).0 ≡ (row_at rows (suc i)).0)
  unfolding joins
  joins_yes i end t =
      let h = and_yes (ltb (suc i) end) (eqb (row_at rows i).0 (row_at rows (suc i)).0) t in
      (ltb_yes h.0, eqb_yes h.1)

  pub joins_no : (i end : ℕ) → suc i < end → T (not (joins rows i end)) → (row_at rows i).0 ≢ (row_at rows (suc i)).0
  joins_no i end h t = eqb_no (rw (joins_is i end h) at t)

  -- and then row i + 1 is or is not of the instruction of row i
  next_is : (at i : ℕ) → at ≤ i → joined rows at (suc i) ≡ eqb (row_at rows i).0 (row_at rows (suc i)).0
  next_is at i h = let e : suc i - 1 ≡ i = omega arith in joined_is at (suc i) (omega arith) ∙ ap (λ (k : ℕ). eqb (row_at rows k).0 (row_at rows (suc i)).0) e

  pub next_yes : (at i : ℕ) → at ≤ i → (row_at rows i).0 ≡ (row_at rows (suc i)).0 → joined rows at (suc i) ≡ true
  next_yes at i h e = next_is at i h ∙ eq-eqb (row_at rows i).0 (row_at rows (suc i)).0 e

  pub next_no : (at i : ℕ) → at ≤ i → (row_at rows i).0 ≢ (row_at rows (suc i)).0 → joined rows at (suc i) ≡ false
  next_no at i h n = next_is at i h ∙ ne_eqb (row_at rows i).0 (row_at rows (suc i)).0 n

  pub not_third : (at i : ℕ) → joined rows at i ≡ false → third rows at i ≡ false
  unfolding third
  not_third at i e = simp e

  pub is_third : (at i : ℕ) → joined rows at i ≡ true → third rows at i ≡ joined rows at (i - 1)
  unfolding third
  is_third at i e = simp e

  -- ---- by what the code reads

  module _ {a b : ℕ} (edge i : ℕ) where
    pub reads_joined : edge < i → a ≡ field row_stride rows (i - 1) 0 → b ≡ field row_stride rows i 0 → eqb a b ≡ joined rows edge i
    unfolding row_at
    reads_joined h e f = rw (e, f) (sym (joined_is edge i h))

    pub reads_joins : i + 1 < edge → a ≡ field row_stride rows i 0 → b ≡ field row_stride rows (i + 1) 0 → eqb a b ≡ joins rows i edge
    unfolding row_at
    reads_joins h e f = rw (e, f, add-one) (sym (joins_is i edge (omega arith)))
