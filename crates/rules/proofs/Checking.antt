-- The row check as a loop: before each row, the check of the rows that are left decides.
use mathlib.Core.Path.{◌≡◌, refl, sym, ap, ◌∙◌}
use Prim.Native.Nat.{ℕ, suc, ◌+◌, ◌-◌, ◌≤◌, ◌<◌}
use native.Mathlib.Omega.{arith}
use native.Mathlib.Numerals.{add-one}
use mathlib.Core.Bool.{Bool, true, false, ◌&&◌, and-true, and-false}
use mathlib.Core.List.{List, [], ◌∷◌}
use lib.Dec.{eqb}
use Rattle.format.specs.Prelude.{pick, all, each}
use Rattle.format.specs.Lists.{all_in}
use Rattle.format.specs.declared.Row.{Row}
use Rattle.format.specs.Rows.{RowAt}
use Rattle.format.specs.Headers.{ahead}
use Rattle.format.specs.RowCheck.{in_order, rows_of}
use Rattle.lists.proofs.Ranges.{none_left, one_more}
use Rattle.rules.specs.declared.Order.{Order}
use Rattle.std.specs.Prelude.{Option, Some, None}
use Rattle.std.specs.Bool.{then_some}
use Rattle.rules.specs.Orders.{leaders_ok, follow, follow_some, follow_given, Follows, Starts, Steps}
use Rattle.rules.specs.Whole.{Gives, all_follow}

done : (b : Bool) → pick b true true && true ≡ true
unfolding pick
done true = refl
done false = refl

-- no row is left
pub follow_none : (o : Order) → follow o [] ≡ true
unfolding follow leaders_ok all ahead rows_of in_order
follow_none o = done o.leading

-- ---- one row

pub no_row : {o : Order} → Follows o None None
no_row = record { decides = λ xs. refl }

pub one_row : {o : Order} {first : Bool} {offset : ℕ} {r : Row} {s : Option Order} → first ≡ o.leading && eqb offset 0 → Steps o first r s
    → Follows o (Some (offset, r)) s
one_row {offset = offset} f g = record { decides = λ xs. g.decides offset f xs }

given_is : (o : Order) (ok : Bool) (x : RowAt) (xs : List RowAt) → follow_given o (then_some ok x) xs ≡ ok && follow o (x ∷ xs)
given_is o true x xs = refl
given_is o false x xs = refl

-- what decides with a test decides with one more beside it
drawn : (a b c f : Bool) → b && c ≡ f → (b && a) && c ≡ a && f
drawn true b c f h = rw (and-true b) h
drawn false b c f h = rw (and-false b)

-- ---- the loop

-- the rows from i on, of the n from `at` on, behind a state
abbrev left : Order → (ok : ℕ → Bool) (rows : ℕ → RowAt) (at n i : ℕ) → Bool
left o ok rows at n i = all_in ok i (at + n - i) && follow o (each rows i (at + n - i))

-- before row i of the n from `at` on
pub record Checking (post : ℕ → Option RowAt → Type 0) (simple : Bool) (at n i : ℕ) (o : Order) : Type 0 where
  pub low : at ≤ i
  pub high : i ≤ at + n
  pub rest : (ok : ℕ → Bool) (rows : ℕ → RowAt) → Gives post ok rows at n → all_follow simple ok rows at n ≡ left o ok rows at n i

pub start : {post : ℕ → Option RowAt → Type 0} {simple : Bool} {at n : ℕ} {o : Order} → Starts simple o → Checking post simple at n at o
unfolding all_follow
start {at = at} {n} {o} s =
    let e : n ≡ at + n - at = omega arith in
    record {
      low = omega arith;
      high = omega arith;
      rest = λ ok rows g. ap (λ (b : Bool). all_in ok at n && b) (s.whole (each rows at n)) ∙ ap (λ m. all_in ok at m && follow o (each rows at m)) e;
    }

module _ {post : ℕ → Option RowAt → Type 0} {simple : Bool} {at n i : ℕ} {o : Order} (c : Checking post simple at n i o) where
  pub ended : at + n ≤ i → (ok : ℕ → Bool) (rows : ℕ → RowAt) → Gives post ok rows at n → true ≡ all_follow simple ok rows at n
  unfolding each
  ended h ok rows g =
      let e : at + n - i ≡ 0 = omega arith in
      sym (c.rest ok rows g ∙ rw (e, none_left, follow_none o))

  module _ (h : i < at + n) {r : Option RowAt} {s : Option Order} (p : post i r) (t : Follows o r s) where
    here : (ok : ℕ → Bool) (rows : ℕ → RowAt) → Gives post ok rows at n
        → all_follow simple ok rows at n ≡ all_in ok (i + 1) (at + n - (i + 1)) && follow_some s (each rows (i + 1) (at + n - (i + 1)))
    unfolding each
    here ok rows g =
        let m : ℕ = at + n - (i + 1) in
        let e : at + n - i ≡ suc m = omega arith in
        let q : ok i && follow o (rows i ∷ each rows (i + 1) m) ≡ follow_some s (each rows (i + 1) m) =
        sym (given_is o (ok i) (rows i) (each rows (i + 1) m)) ∙ ap (λ x. follow_given o x (each rows (i + 1) m)) (sym (g i r c.low h p)) ∙ t.decides (each rows (i + 1) m)
        in
        c.rest ok rows g ∙ rw (e, one_more ok i m, ← add-one i) (drawn (all_in ok (i + 1) m) (ok i) _ _ q)

    pub turn : {after : Order} → s ≡ Some after → Checking post simple at n (i + 1) after
    turn {after} e = record { low = omega (arith, c.low); high = omega arith; rest = λ ok rows g. rw e at (here ok rows g) }

    pub stopped : s ≡ None → (ok : ℕ → Bool) (rows : ℕ → RowAt) → Gives post ok rows at n → false ≡ all_follow simple ok rows at n
    stopped e ok rows g = sym ((rw e at (here ok rows g)) ∙ rw (and-false (all_in ok (i + 1) (at + n - (i + 1)))))
