-- Pairs whose first places rise: at most one is for a step, and where it is.
use mathlib.Core.Path.{◌≡◌, refl, sym, subst, ◌∙◌}
use Prim.Native.Nat.{ℕ, zero, suc, ◌+◌, ◌-◌, ◌≤◌, ◌<◌}
use native.Mathlib.Omega.{arith}
use mathlib.Core.Bool.{Bool, true, false}
use mathlib.Core.Logic.{◌≢◌}
use mathlib.Core.Option.{none, some}
use mathlib.Core.List.{List}
use lib.Dec.{T, leb, ltb, leb→le, ltb→lt}
use borrow.Author.Tests.{ne_eqb}
use Rattle.std.specs.Prelude as code
use Rattle.std.specs.Prelude.{MatchOption}
use Rattle.std.specs.List.{list_all, range_with_len}
use Rattle.std.proofs.lemmas.Bool.{and_parts}
use Rattle.format.specs.Lists.{Pair, pair_at}
use Rattle.format.proofs.Choice.{either}
use Rattle.records.specs.Labels.{is_for, pair_between, Rising, Parted}
use Rattle.records.proofs.LabelLaws.{Seeking, start, turn, found, ended}

-- ---- the loop that asks whether they rise

-- those in front of pair i rise
pub record Climbing (pairs : List ℕ) (at i : ℕ) : Type 0 where
  pub low : at < i
  pub so : (j k : ℕ) → at ≤ j → j < k → k < i → (pair_at pairs j).place1 < (pair_at pairs k).place1

pub start_climb : (pairs : List ℕ) (at : ℕ) → Climbing pairs at (at + 1)
start_climb pairs at = record { low = omega arith; so = λ j k a b c. absurd (omega arith) }

module _ {pairs : List ℕ} {at i : ℕ} (s : Climbing pairs at i) where
  pub turn_climb : {x y : ℕ} → x ≡ (pair_at pairs (i - 1)).place1 → y ≡ (pair_at pairs i).place1 → x < y → Climbing pairs at (i + 1)
  turn_climb e f l = record {
    low = omega (arith, s.low);
    so = λ j k a b c.
        either (suc k) i (λ m. s.so j k a b m)
        (λ g. let q : k ≡ i = omega arith in
        either (i - 1) j (λ m. let r : j ≡ i - 1 = omega arith in rw (q, r) (omega arith)) (λ m. let u = s.so j (i - 1) a m (omega arith) in rw q (omega arith)));
  }

  pub ended_climb : {n : ℕ} → at + n ≤ i → Rising pairs at n
  ended_climb h = record { rise = λ j k a b c. s.so j k a b (omega arith) }

-- the test of each and the one in front of it
abbrev pub climbs : (pairs : List ℕ) → ℕ → Bool
climbs pairs i = ltb (pair_at pairs (i - 1)).place1 (pair_at pairs i).place1

climbing : (pairs : List ℕ) (i m : ℕ) → Climbing pairs 0 i → list_all (climbs pairs) (range_with_len i m) ≡ true → Climbing pairs 0 (i + m)
climbing pairs i zero c e = let z : i ≡ i + 0 = omega arith in rw z at c
climbing pairs i (suc m) c e =
    let s = and_parts (climbs pairs i) (list_all (climbs pairs) (range_with_len (i + 1) m)) e in
    let l : (pair_at pairs (i - 1)).place1 < (pair_at pairs i).place1 = ltb→lt _ _ (subst T (sym s.0) tt) in
    let z : i + 1 + m ≡ i + suc m = omega arith in
    rw z at (climbing pairs (i + 1) m (turn_climb c refl refl l) s.1)

pub risen : (pairs : List ℕ) (n : ℕ) → list_all (climbs pairs) (range_with_len 1 (n - 1)) ≡ true → Rising pairs 0 n
risen pairs n e = ended_climb (climbing pairs 1 (n - 1) (start_climb pairs 0) e) (omega arith)

-- ---- a place among them

pub parted : {pairs : List ℕ} {at n i from : ℕ} → Rising pairs at n → at ≤ i → i ≤ at + n → (at < i → (pair_at pairs (i - 1)).place1 < from)
    → (i < at + n → from ≤ (pair_at pairs i).place1) → Parted pairs at n i from
parted {pairs} {at} {n} {i} {from} r lo hi f g = record {
  low = lo;
  high = hi;
  below = λ j a b.
      let t = f (omega arith) in
      either (i - 1) j (λ l. let e : j ≡ i - 1 = omega arith in rw e t) (λ m. let u = r.rise j (i - 1) a m (omega arith) in omega arith);
  beyond = λ j b c. let u = r.rise i j lo b c in let t = g (omega arith) in omega arith;
}

-- by the code's tests
pub below_is : {x y from : ℕ} → x ≡ y → ltb x from ≡ true → y < from
below_is {x} {y} {from} e t = let l : x < from = ltb→lt x from (subst T (sym t) tt) in omega arith

pub from_is : {x y from : ℕ} → x ≡ y → leb from x ≡ true → from ≤ y
from_is {x} {y} {from} e t = let l : from ≤ x = leb→le from x (subst T (sym t) tt) in omega arith

-- ---- the search that is saved

not_for : (from to : ℕ) (p : Pair) → p.place1 ≢ from → is_for from to p ≡ false
unfolding is_for
not_for from to p n = rw (ne_eqb p.place1 from n)

module _ (from to : ℕ) (pairs : List ℕ) (at n : ℕ) where
  passed_to : (d : ℕ) → d ≤ n → ((j : ℕ) → j < d → is_for from to (pair_at pairs (at + j)) ≡ false) → Seeking from to pairs at n (at + d)
  passed_to zero h f = let e : at ≡ at + 0 = omega arith in subst (λ (i : ℕ). Seeking from to pairs at n i) e (start from to pairs at n)
  passed_to (suc d) h f =
      let e : at + d + 1 ≡ at + suc d = omega arith in
      let s = passed_to d (omega arith) (λ j l. f j (omega arith)) in
      subst (λ (i : ℕ). Seeking from to pairs at n i) e (turn s (omega arith) refl (f d (omega arith)))

-- the first pair that `find` found, or none
pub sought : (from to : ℕ) (pairs : List ℕ) (n : ℕ) (r : code.Option ℕ)
    → MatchOption r ((k : ℕ) → 0 ≤ k → k < n → is_for from to (pair_at pairs k) ≡ false)
    (λ i. (0 ≤ i) × (i < n) × (is_for from to (pair_at pairs i) ≡ true) × ((k : ℕ) → 0 ≤ k → k < i → is_for from to (pair_at pairs k) ≡ false))
    → MatchOption r (none ≡ pair_between from to pairs 0 n) (λ i. some (pair_at pairs i) ≡ pair_between from to pairs 0 n)
sought from to pairs n code.None h =
    ended (passed_to from to pairs 0 n n (omega arith) (λ j l. let z : 0 + j ≡ j = omega arith in rw z (h j (omega arith) l))) (omega arith)
sought from to pairs n (code.Some i) h =
    let z : 0 + i ≡ i = omega arith in
    found (rw z at (passed_to from to pairs 0 n i (omega (arith, h.1)) (λ j l. let y : 0 + j ≡ j = omega arith in rw y (h.3 j (omega arith) l)))) (omega (arith, h.1)) refl h.2

module _ (to : ℕ) {from : ℕ} {pairs : List ℕ} {at n i : ℕ} (p : Parted pairs at n i from) where
  under : (j : ℕ) → at ≤ j → j < i → is_for from to (pair_at pairs j) ≡ false
  under j a b = let l = p.below j a b in not_for from to (pair_at pairs j) (λ e. omega arith)

  at_last : Seeking from to pairs at n i
  at_last =
      let lo = p.low in
      let hi = p.high in
      let e : at + (i - at) ≡ i = omega arith in
      subst (λ (k : ℕ). Seeking from to pairs at n k) e (passed_to from to pairs at n (i - at) (omega arith) (λ j l. under (at + j) (omega arith) (omega arith)))

  pub none_behind : at + n ≤ i → none ≡ pair_between from to pairs at n
  none_behind h = ended at_last h

  module _ {r : Bool} (h : i < at + n) (e : r ≡ is_for from to (pair_at pairs i)) where
    pub found_there : r ≡ true → some (pair_at pairs i) ≡ pair_between from to pairs at n
    found_there t = found at_last h e t

    over : (j : ℕ) → i < j → j < at + n → is_for from to (pair_at pairs j) ≡ false
    over j a b = let l = p.beyond j a b in not_for from to (pair_at pairs j) (λ q. omega arith)

    pub absent_there : r ≡ false → none ≡ pair_between from to pairs at n
    absent_there t =
        let lo = p.low in
        let no : is_for from to (pair_at pairs i) ≡ false = sym e ∙ t in
        ended (passed_to from to pairs at n n (omega arith)
        (λ j l. either (at + j) i (λ a. either i (at + j) (λ b. let q : at + j ≡ i = omega arith in rw q no) (λ b. under (at + j) (omega arith) b)) (λ a. over (at + j) a (omega arith))))
        (omega arith)
