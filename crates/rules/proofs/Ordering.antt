-- One row of the row check: it may lead where it does, and it is in order.
use mathlib.Core.Path.{◌≡◌, refl, sym, ap, ◌∙◌}
use Prim.Native.Nat.{ℕ, suc, ◌+◌, ◌-◌, ◌≤◌, ◌<◌}
use native.Mathlib.Omega.{arith}
use native.Mathlib.Numerals.{add-one}
use mathlib.Core.Bool.{Bool, true, false, not, ◌&&◌, and-true, and-false, and_assoc}
use mathlib.Core.List.{List, [], ◌∷◌, reverse, reverse-append}
use lib.ListN.{length, get_or, set, take, length-take, length-reverse}
use lib.Seq.{take-suc, take-suc-set}
use lib.Dec.{eqb, ltb}
use borrow.Author.Tests.{le-leb, lt-leb}
use Rattle.format.specs.Prelude.{pick, all}
use Rattle.format.specs.declared.Row.{Row}
use Rattle.format.specs.declared.Row.TheVariants.{RememberState, RestoreState}
use Rattle.format.specs.Rows.{RowAt, kind_of}
use Rattle.format.specs.Headers.{leads, ahead}
use Rattle.format.specs.RowCheck.{may_lead, in_order, rows_of}
use Rattle.rules.specs.declared.Order.{Order}
use Rattle.std.specs.Prelude.{Some, None}
use Rattle.std.specs.Bool.{then_some}
use Rattle.std.proofs.Math.Bridge.{le_prop}
use Rattle.std.proofs.Math.Nat.{ℕ_set}
use Rattle.rules.specs.Orders.{leaders_ok, follow, follow_some, passing, Steps}

-- ---- the open ones, the last first

abbrev open_of : List Bool → ℕ → List Bool
open_of ms n = reverse (take n ms)

open_length : (ms : List Bool) (n : ℕ) → n ≤ length ms → length (open_of ms n) ≡ n
open_length ms n h = simp (length-reverse, length-take) (omega arith)

open_more : (ms : List Bool) (b : Bool) (n : ℕ) → n < length ms
    → open_of (set ms n b) (suc n) ≡ b ∷ open_of ms n
open_more ms b n h = rw (take-suc-set ms n b h, reverse-append)

open_last : (ms : List Bool) (n : ℕ) → n < length ms → open_of ms (suc n) ≡ get_or ms n false ∷ open_of ms n
open_last ms n h = rw (take-suc ms n false h, reverse-append)

-- ---- leading

-- rows still lead behind a row that is no RememberState
abbrev pub still_leads : Bool → Row → Bool
still_leads first r = first && not (eqb (kind_of r) 6)

one_leader : (leading here : Bool) (r : Row) (rs : List Row)
    → pick leading (all may_lead (pick here (r ∷ rs) [])) true ≡ pick (leading && here) (may_lead r) true && pick (leading && here) (all may_lead rs) true
unfolding pick all
one_leader false here r rs = refl
one_leader true true r rs = refl
one_leader true false r rs = refl

swap : (a b c d : Bool) → (a && b) && (c && d) ≡ (a && c) && (b && d)
swap true b true d = refl
swap true b false d = and-false b
swap false b c d = refl

given_where : (b : Bool) (s : Order) → then_some b s ≡ pick b (Some s) None
unfolding pick
given_where true s = refl
given_where false s = refl

follow_pick : (b : Bool) (s : Order) (xs : List RowAt) → b && follow s xs ≡ follow_some (pick b (Some s) None) xs
unfolding pick
follow_pick true s xs = refl
follow_pick false s xs = refl

-- a row decides where the rest of the leaders and the rest of the order are known
module _ (o : Order) (first : Bool) (r : Row) (s : Order) (may ok : Bool) where
  pub decided : s.leading ≡ still_leads first r → may ≡ pick (still_leads first r) (may_lead r) true && ok
      → ((rs : List Row)
      → in_order o.framed (open_of o.marks o.depth) (r ∷ rs)
      ≡ ok && in_order s.framed (open_of s.marks s.depth) rs)
      → Steps o first r (pick may (Some s) None)
  unfolding follow leaders_ok leads ahead rows_of
  decided l e n =
      record {
        decides = λ offset f xs.
            let still : o.leading && (eqb offset 0 && not (eqb (kind_of r) 6)) ≡ still_leads first r =
            rw f (sym (and_assoc o.leading (eqb offset 0) (not (eqb (kind_of r) 6))))
            in
            let both : follow o ((offset, r) ∷ xs) ≡ may && follow s xs =
            rw (one_leader o.leading (eqb offset 0 && not (eqb (kind_of r) 6)) r (ahead xs), still, n (rows_of xs), l, e)
            (swap (pick (still_leads first r) (may_lead r) true) (pick (still_leads first r) (all may_lead (ahead xs)) true) ok _)
            in both ∙ follow_pick may s xs;
      }

-- ---- rows that open and close nothing

-- what follows, whatever proofs it holds
module _ (ok : Bool) (o : Order) (first framed : Bool) where
  abbrev after : o.depth ≤ 16 → length o.marks ≡ 16 → Order
  after d l =
      record { leading = first; framed = framed; depth = o.depth; marks = o.marks; deep = d; long = l }

  pub passed_on : (d : o.depth ≤ 16) (l : length o.marks ≡ 16)
      → then_some ok (after d l) ≡ passing ok o first framed
  unfolding passing
  passed_on d l =
      given_where ok _
      ∙ ap (λ d. pick ok (Some (after d l)) None) (le_prop d o.deep)
      ∙ ap (λ l. pick ok (Some (after o.deep l)) None) (ℕ_set _ _ l o.long)

free : (b ok : Bool) → ok ≡ pick b true true && ok
unfolding pick
free true ok = refl
free false ok = refl

barred : (b : Bool) → not b ≡ pick (b && true) false true && true
unfolding pick
barred true = refl
barred false = refl

module _ (o : Order) (first : Bool) (r : Row) (framed : Bool) (k : eqb (kind_of r) 6 ≡ false) where
  -- one that may lead
  pub passed : (ok : Bool) → may_lead r ≡ true
      → ((rs : List Row)
      → in_order o.framed (open_of o.marks o.depth) (r ∷ rs)
      ≡ ok && in_order framed (open_of o.marks o.depth) rs)
      → Steps o first r (passing ok o first framed)
  unfolding passing
  passed ok m n = decided o first r _ ok ok (rw (k, and-true)) (rw m (free (still_leads first r) ok)) n

  -- one that may not
  pub kept_back : may_lead r ≡ false
      → ((rs : List Row)
      → in_order o.framed (open_of o.marks o.depth) (r ∷ rs) ≡ in_order framed (open_of o.marks o.depth) rs)
      → Steps o first r (passing (not first) o first framed)
  unfolding passing
  kept_back m n = decided o first r _ (not first) true (rw (k, and-true)) (rw (m, k) (barred first)) n

-- ---- rows that open and close

module _ (o : Order) (first : Bool) where
  opened : List Bool
  opened = open_of o.marks o.depth

  open_count : length opened ≡ o.depth
  unfolding opened
  open_count = open_length o.marks o.depth (omega (arith, o.deep, o.long))

  -- a RememberState, where 16 are open and where fewer are
  pub full : 16 ≤ o.depth → Steps o first RememberState None
  unfolding kind_of in_order pick opened
  full l =
      let e : ltb (length opened) 16 ≡ false = lt-leb (suc (length opened)) 16 (omega (arith, open_count)) in
      decided o first RememberState (record o { leading = false }) false false (sym (and-false first))
      (sym (and-false (pick (still_leads first RememberState) (may_lead RememberState) true))) (λ rs. rw e)

  pub remembered : {d : o.depth + 1 ≤ 16} {l : length (set o.marks o.depth o.framed) ≡ 16} → o.depth < 16
      → Steps o first RememberState
      (Some
      (record {
        leading = false;
        framed = o.framed;
        depth = o.depth + 1;
        marks = set o.marks o.depth o.framed;
        deep = d;
        long = l;
      }))
  unfolding kind_of may_lead in_order pick opened
  remembered h =
      let e : ltb (length opened) 16 ≡ true = le-leb (suc (length opened)) 16 (omega (arith, open_count)) in
      decided o first RememberState _ true true (sym (and-false first)) (rw (and-false first))
      (λ rs. rw (e, add-one o.depth, open_more o.marks o.framed o.depth (omega (arith, o.long))))

  -- a RestoreState, where none is open, and where one is: it may not lead
  pub none_open : o.depth ≡ 0 → Steps o first RestoreState None
  unfolding kind_of in_order pick
  none_open e =
      decided o first RestoreState (record o { leading = first }) false false (sym (and-true first))
      (sym (and-false (pick (still_leads first RestoreState) (may_lead RestoreState) true))) (λ rs. rw e)

  module _ (s : Order) (a : s.leading ≡ first) (f : s.framed ≡ get_or o.marks (o.depth - 1) false) where
    pub restored : s.depth ≡ o.depth - 1 → s.marks ≡ o.marks → 0 < o.depth
        → Steps o first RestoreState (then_some (not first) s)
    unfolding kind_of may_lead in_order
    restored d m l =
        let e : o.depth ≡ suc (o.depth - 1) = omega arith in
        let g : open_of o.marks o.depth ≡ get_or o.marks (o.depth - 1) false ∷ open_of o.marks (o.depth - 1) =
        ap (open_of o.marks) e ∙ open_last o.marks (o.depth - 1) (omega (arith, o.deep, o.long)) in
        rw given_where
        (decided o first RestoreState s (not first) true (rw (a, and-true)) (barred first)
        (λ rs. rw (g, f, d, m)))
