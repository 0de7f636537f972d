-- Which row stands at a place among the leading rows.
use mathlib.Core.Path.{◌≡◌, ap, ◌∙◌}
use Prim.Native.Nat.{ℕ, zero, suc, ◌+◌, ◌-◌, ◌≤◌, ◌<◌}
use native.Mathlib.Omega.{arith}
use mathlib.Core.Bool.{Bool, true, false}
use mathlib.Core.List.{List, [], ◌∷◌, ◌++◌}
use lib.ListN.{length, get_or, length-append, get_or-append}
use lib.Seq.{get_or-append-add}
use Rattle.format.specs.Prelude.{pick, each}
use Rattle.format.specs.declared.Machine.{Machine}
use Rattle.format.specs.declared.Row.{Row}
use Rattle.format.specs.declared.Row.TheVariants.{RememberState}
use Rattle.format.specs.Rows.{RowAt}
use Rattle.format.specs.Lists.{row_at}
use Rattle.format.specs.Headers.{implied, leads, ahead, leading}
use Rattle.format.proofs.Choice.{pick_yes, pick_no, tested}
use Rattle.lists.specs.declared.Extent.{Extent}
use Rattle.lists.specs.Extents.{meant}
use Rattle.header_keys.specs.Functions.{body_of}

-- a row of those that are there unless a mark is set
unless : (b : Bool) (xs ys : List Row) (i : ℕ) → i < length (pick b [] xs)
    → (i < length xs) × (get_or (pick b [] xs ++ ys) i RememberState ≡ get_or xs i RememberState)
unfolding pick
unless true xs ys i h = absurd (omega arith)
unless false xs ys i h = (h, get_or-append xs ys RememberState i h)

-- of rows that lead, the first leads
first_leads : (x : RowAt) (xs : List RowAt) (i : ℕ) → i < length (ahead (x ∷ xs)) → ahead (x ∷ xs) ≡ x.1 ∷ ahead xs
unfolding ahead
first_leads x xs i h =
    tested (leads x) (λ t. pick_yes (leads x) (x.1 ∷ ahead xs) [] t) (λ t. absurd (omega (arith, rw (pick_no (leads x) (x.1 ∷ ahead xs) [] t) at h)))

-- row i of those that lead is row i of all
ahead_at : (f : ℕ → RowAt) (at n i : ℕ) → i < length (ahead (each f at n)) → (i < n) × (get_or (ahead (each f at n)) i RememberState ≡ (f (at + i)).1)
unfolding each ahead
ahead_at f at zero i h = absurd (omega arith)
ahead_at f at (suc n) zero h =
    let e : at ≡ at + 0 = omega arith in
    (omega arith, rw (first_leads (f at) (each f (suc at) n) 0 h) (ap (λ (k : ℕ). (f k).1) e))
ahead_at f at (suc n) (suc i) h =
    let g = first_leads (f at) (each f (suc at) n) (suc i) h in
    let k = ahead_at f (suc at) n i (omega (arith, rw g at h)) in
    let e : suc at + i ≡ at + suc i = omega arith in
    (omega (arith, k.0), rw g (k.1 ∙ ap (λ (k : ℕ). (f k).1) e))

-- a leading row behind those in front is one of the function's own
behind : (rs : List Row) (f : ℕ → RowAt) (at n i : ℕ) → length rs ≤ i → i < length (rs ++ ahead (each f at n))
    → (i - length rs < n) × (get_or (rs ++ ahead (each f at n)) i RememberState ≡ (f (at + (i - length rs))).1)
behind rs f at n i l h =
    let own : List Row = ahead (each f at n) in
    let j : i ≡ length rs + (i - length rs) = omega arith in
    let k = ahead_at f at n (i - length rs) (omega (arith, length-append rs own)) in
    (k.0, ap (λ (p : ℕ). get_or (rs ++ own) p RememberState) j ∙ get_or-append-add rs own (i - length rs) RememberState ∙ k.1)

module _ (m : Machine) (e : Extent) (rows : List ℕ) (i n : ℕ) (c : n ≡ length (pick e.simple [] (implied m))) where
  -- a row that the call implies
  pub call_row : i < n → (i < length (implied m)) × (get_or (leading m (body_of e rows)) i RememberState ≡ get_or (implied m) i RememberState)
  unfolding leading meant
  call_row h = unless e.simple (implied m) (ahead (each (row_at rows) e.rows_at e.rows)) i (omega arith)

  -- and one of the function's own
  pub own_row : n ≤ i → i < length (leading m (body_of e rows))
      → (i - n < e.rows) × (get_or (leading m (body_of e rows)) i RememberState ≡ (row_at rows (e.rows_at + (i - n))).1)
  unfolding leading meant
  own_row l h = rw c (behind (pick e.simple [] (implied m)) (row_at rows) e.rows_at e.rows i (omega arith) h)
