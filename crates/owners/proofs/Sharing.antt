-- Two functions that add no leading rows to those of a call, and the owner of the function in front.
use mathlib.Core.Path.{◌≡◌, refl, sym, ◌∙◌}
use Prim.Native.Nat.{ℕ, ◌-◌, ◌<◌}
use native.Mathlib.Omega.{arith}
use mathlib.Core.Bool.{Bool, true, false, not, beq}
use mathlib.Core.List.{List, [], ◌∷◌}
use borrow.Author.Tests.{eq-eqb}
use lib.Dec.{eqb}
use lib.IntN.{ℤ, pos, negsuc}
use lib.ListN.{length, get_or}
use Rattle.format.specs.Prelude.{each}
use Rattle.format.specs.declared.Row.{Row}
use Rattle.format.specs.Rows.{kind_of, reg_of, offset_of, same_offset, same_row}
use Rattle.format.specs.Headers.{ahead, leading, same_rows}
use Rattle.format.specs.Lists.{row_at}
use Rattle.lists.specs.declared.Extent.{Extent}
use Rattle.lists.specs.Extents.{meant}
use Rattle.rows.proofs.WholeNumbers.{never}
use Rattle.header_keys.specs.Inputs.{Inputs}
use Rattle.owners.specs.Owners.{leading_in, owner}
use Rattle.owners.specs.Chains.{Owned}
use Rattle.owners.proofs.Finding.{shares, owner_low}
use Rattle.owners.proofs.Firsts.{owner_hit, owner_owns}
use Rattle.owners.proofs.Comparing.{Asked, by_rows_lem}
use Rattle.std.proofs.lemmas.List.{nil_from_length}

-- ---- equal rows are the same

self : (n : ℕ) → eqb n n ≡ true
self n = eq-eqb n n refl

offset_self : (z : ℤ) → same_offset z z ≡ true
unfolding same_offset
offset_self (pos n) = self n
offset_self (negsuc n) = self n

row_self : (r : Row) → same_row r r ≡ true
unfolding same_row
row_self r = simp (self (kind_of r), self (reg_of r), offset_self (offset_of r))

rows_self : (rs : List Row) → same_rows rs rs ≡ true
unfolding same_rows
rows_self [] = refl
rows_self (r ∷ rs) = simp (row_self r, rows_self rs)

-- ---- the same header

marks_same : (a b : Bool) → not (beq a b) ≡ false → a ≡ b
marks_same true true h = refl
marks_same true false h = never (sym h)
marks_same false true h = never (sym h)
marks_same false false h = refl

module _ {x : Inputs} {j k : ℕ} {a b : Extent} {r : Bool} (q : Asked x j k a b r) (t : not r ≡ false)
    (e : not (beq a.simple b.simple) ≡ false) where
  leading_same : length (ahead (each (row_at x.rows) a.rows_at a.rows)) ≡ 0 → length (ahead (each (row_at x.rows) b.rows_at b.rows)) ≡ 0
      → leading_in x.machine a x.rows ≡ leading_in x.machine b x.rows
  unfolding leading meant
  leading_same f g = rw (nil_from_length (ahead (each (row_at x.rows) a.rows_at a.rows)) f, nil_from_length (ahead (each (row_at x.rows) b.rows_at b.rows)) g, marks_same a.simple b.simple e)

  pub sharing : length (ahead (each (row_at x.rows) a.rows_at a.rows)) ≡ 0 → length (ahead (each (row_at x.rows) b.rows_at b.rows)) ≡ 0
      → shares x k j ≡ true
  sharing f g = by_rows_lem q t (rw (leading_same f g) (rows_self (leading_in x.machine b x.rows)))

-- ---- the owner of the function in front

module _ {x : Inputs} {owners : List ℕ} {k : ℕ} (w : Owned x k owners) (z : 0 < k) where
  last_is : get_or owners (k - 1) 0 ≡ owner x (k - 1)
  last_is = w.each_one (k - 1) (omega arith)

  pub last_low : {o : ℕ} → o ≡ get_or owners (k - 1) 0 → o < k
  last_low d = omega (arith, d, last_is, owner_low x (k - 1))

  pub last_owns : {o : ℕ} → o ≡ get_or owners (k - 1) 0 → shares x k o ≡ true → o ≡ owner x k
  last_owns {o} d e =
      let f : owner x o ≡ o = rw (← (d ∙ last_is)) at (owner_owns x (k - 1)) in
      owner_hit x k o (omega (arith, last_low d)) f e
