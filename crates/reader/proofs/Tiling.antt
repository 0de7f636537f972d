-- Entries at positions: where one ends, and what tiles the rest of a section.
use mathlib.Core.Path.{◌≡◌, refl, sym, ◌∙◌}
use mathlib.Core.Bool.{Bool, true, false, ◌&&◌}
use mathlib.Core.Option.{Option, none, some}
use mathlib.Core.List.{List, [], ◌∷◌}
use Prim.Native.Nat.{ℕ, zero, suc, ◌+◌, ◌-◌, ◌≤◌, ◌<◌}
use native.Mathlib.Omega.{arith}
use borrow.Author.Tests.{le-leb, lt-leb}
use lib.Dec.{T, leb}
use lib.ListN.{length, take, drop, length-drop, drop_of_length-le}
use lib.Seq.{drop-drop, length-take-le}
use mir.Facts.{and_yes, leb_yes}
use Rattle.format.specs.Prelude.{pick, Read, next, after}
use Rattle.operations.specs.Positions.{little_at, from}
use Rattle.format.specs.Questions.{is_some}
use Rattle.format.specs.Reader.{Entry, read_entry, entries_f, entries, value_or0, second}
use Rattle.operations.specs.declared.fields.Position.{Position}
use Rattle.operations.proofs.PositionLaws.{Takes, nothing, taken, takes_little, little_ahead, little_rest, little_none}
use Rattle.reader.specs.Spans.{part, entry_in, entries_from, listed, end_from, end_at, Ends}
use Rattle.std.specs.Prelude.{Some, None}

-- ---- an entry of a list: nothing, or at least 8 bytes

pub data Held (bs : List ℕ) : Read (List ℕ) → Type 0 where
  bare : Held bs none
  held : (n : ℕ) → 4 ≤ n → 4 + n ≤ length bs → Held bs (some (take n (drop 4 bs), drop (4 + n) bs))

pick_held : (bs : List ℕ) (n : ℕ) → 4 ≤ length bs → (t : Bool) → (T t → (4 ≤ n) × (n ≤ length (drop 4 bs)))
    → Held bs (pick t (some (take n (drop 4 bs), drop n (drop 4 bs))) none)
unfolding pick
pick_held bs n l true f = let h = f tt in rw drop-drop (held n h.0 (omega (arith, h.1, length-drop 4 bs)))
pick_held bs n l false f = bare

taken_held : (bs : List ℕ) {r : Read ℕ} → Takes 4 4 bs r → Held bs (next r λ n r. pick (leb 4 n && leb n (length r)) (some (take n r, drop n r)) none)
unfolding next
taken_held bs nothing = bare
taken_held bs (taken k n l h m) =
    let e : k ≡ 4 = omega arith in
    rw e (pick_held bs n (omega arith) (leb 4 n && leb n (length (drop 4 bs))) (λ t. let y = and_yes (leb 4 n) (leb n (length (drop 4 bs))) t in (leb_yes y.0, leb_yes y.1)))

entry_held : (bs : List ℕ) → Held bs (read_entry bs)
unfolding read_entry
entry_held bs = taken_held bs (takes_little 4 bs)

-- ---- where the entry at a position ends

module _ (s : List ℕ) (p : ℕ) where
  pub end_none : little_at 4 s (from p) ≡ None → end_at s p ≡ None
  unfolding end_at end_from read_entry next
  end_none e = rw (little_none s (from p) 4 e)

  module _ {n : ℕ} {q : Position} (e : little_at 4 s (from p) ≡ Some (n, q)) where
    opened : end_at s p ≡ end_from (length s) (pick (leb 4 n && leb n (length (drop q.at s))) (some (take n (drop q.at s), drop n (drop q.at s))) none)
    unfolding end_at read_entry next
    opened = rw (little_rest s (from p) (omega arith) e)

    pub body_inside : q.at ≤ length s
    body_inside = (little_ahead s (from p) (omega arith) e).1

    pub end_short : n < 4 → end_at s p ≡ None
    unfolding end_from pick
    end_short h = opened ∙ simp (lt-leb 4 n h)

    pub end_over : 4 ≤ n → length s - q.at < n → end_at s p ≡ None
    unfolding end_from pick
    end_over h l = opened ∙ simp (le-leb 4 n h, length-drop, lt-leb n (length s - q.at) l)

    pub end_there : 4 ≤ n → n ≤ length s - q.at → end_at s p ≡ Some (q.at + n)
    unfolding end_from pick
    end_there h l =
        let b = body_inside in
        let f : length s - (length s - (q.at + n)) ≡ q.at + n = omega arith in
        opened ∙ simp (le-leb 4 n h, length-drop, le-leb n (length s - q.at) l, drop-drop, f)

-- what was read where an entry ends at q
pub record Entered (s : List ℕ) (p q : ℕ) : Type 0 where
  pub long : p + 8 ≤ q
  pub inside : q ≤ length s
  pub read : read_entry (drop p s) ≡ some (part s (p + 4) q, drop q s)

held_entered : (s : List ℕ) (p q : ℕ) {r : Read (List ℕ)} → read_entry (drop p s) ≡ r → Held (drop p s) r → end_from (length s) r ≡ Some q → Entered s p q
unfolding end_from
held_entered s p q same bare e = let z : ◌≡◌ {A = ℕ} 0 1 = cc in absurd (omega arith)
held_entered s p q same (held n l h) e =
    let f : length s - length (drop (4 + n) (drop p s)) ≡ q = cc in
    let d = length-drop p s in
    let d' = length-drop (4 + n) (drop p s) in
    let g : q ≡ p + (4 + n) = omega arith in
    let k : n ≡ q - (p + 4) = omega arith in
    record { long = omega arith; inside = omega arith; read = same ∙ rw (drop-drop 4 p s, drop-drop (4 + n) p s, ← g, k) }

pub entered : (s : List ℕ) (p : ℕ) {q : ℕ} → end_at s p ≡ Some q → Entered s p q
unfolding end_at
entered s p {q} e = held_entered s p q refl (entry_held (drop p s)) e

pub none_read : (s : List ℕ) (r : Read (List ℕ)) → end_from (length s) r ≡ None → r ≡ none
unfolding end_from
none_read s none e = refl
none_read s (some x) e = let z : ◌≡◌ {A = ℕ} 0 1 = cc in absurd (omega arith)

-- ---- entries from a position on

-- more fuel than bytes is enough
fuel_held : (f g at : ℕ) (bs : List ℕ) {r : Read (List ℕ)} → Held bs r → length bs ≤ f → length bs ≤ g
    → ((at : ℕ) (rest : List ℕ) → length rest < f → length rest < g → entries_f f at rest ≡ entries_f g at rest)
    → next {B = List Entry} r (λ body r. after (entries_f f (at + 4 + length body) r) λ es. some (record { at = at; body = body } ∷ es))
    ≡ next r (λ body r. after (entries_f g (at + 4 + length body) r) λ es. some (record { at = at; body = body } ∷ es))
unfolding next
fuel_held f g at bs bare h k more = refl
fuel_held f g at bs (held n l m) h k more =
    let d = length-drop (4 + n) bs in
    rw (more _ (drop (4 + n) bs) (omega arith) (omega arith))

fuel : (f g at : ℕ) (bs : List ℕ) → length bs < f → length bs < g → entries_f f at bs ≡ entries_f g at bs
unfolding entries_f
fuel zero g at bs h k = absurd (omega arith)
fuel (suc f) zero at bs h k = absurd (omega arith)
fuel (suc f) (suc g) at [] h k = refl
fuel (suc f) (suc g) at (b ∷ bs) h k =
    fuel_held f g at (b ∷ bs) (entry_held (b ∷ bs)) (omega arith) (omega arith) (λ at rest h k. fuel f g at rest h k)

one_step : (f at : ℕ) (bs : List ℕ) → 0 < length bs
    → entries_f (suc f) at bs ≡ next (read_entry bs) λ body r. after (entries_f f (at + 4 + length body) r) λ es. some (record { at = at; body = body } ∷ es)
unfolding entries_f
one_step f at [] h = absurd (omega arith)
one_step f at (b ∷ bs) h = refl

module _ (s : List ℕ) (p : ℕ) where
  pub tiled_end : length s ≤ p → entries_from s p ≡ some []
  unfolding entries_from entries_f
  tiled_end h = rw (drop_of_length-le s h)

  module _ (h : p < length s) where
    step : entries_from s p ≡ next (read_entry (drop p s)) λ body r. after (entries_f (length (drop p s)) (p + 4 + length body) r) λ es. some (record { at = p; body = body } ∷ es)
    unfolding entries_from
    step = one_step (length (drop p s)) p (drop p s) (omega (arith, length-drop p s))

    pub tiled_none : end_at s p ≡ None → entries_from s p ≡ none
    unfolding end_at next
    tiled_none e = step ∙ rw (none_read s (read_entry (drop p s)) e)

    pub tiled_more : {q : ℕ} → end_at s p ≡ Some q → entries_from s p ≡ after (entries_from s q) λ es. some (entry_in s p q ∷ es)
    unfolding entries_from next
    tiled_more {q} e =
        let a = entered s p e in
        let l : length (part s (p + 4) q) ≡ q - (p + 4) = length-take-le (q - (p + 4)) (drop (p + 4) s) (omega (arith, a.long, a.inside, length-drop (p + 4) s)) in
        let m : p + 4 + length (part s (p + 4) q) ≡ q = omega (arith, a.long) in
        let d = length-drop p s in
        let d' = length-drop q s in
        step ∙ rw (a.read, m, fuel (length (drop p s)) (suc (length (drop q s))) q (drop q s) (omega (arith, a.long, a.inside)) (omega arith))

-- ---- entries that tile

tiled_after : (e : Entry) (o : Option (List Entry)) → is_some (after o λ es. some (e ∷ es)) ≡ is_some o
unfolding after is_some
tiled_after e none = refl
tiled_after e (some es) = refl

-- in front of position `at` stand entries
pub record Tiling (s : List ℕ) (at : ℕ) : Type 0 where
  pub inside : at ≤ length s
  pub rest : is_some (entries s) ≡ is_some (entries_from s at)

pub start : (s : List ℕ) → Tiling s 0
unfolding entries entries_from
start s = record { inside = omega arith; rest = refl }

module _ {s : List ℕ} {at : ℕ} (t : Tiling s at) where
  module _ (h : at < length s) where
    pub stopped : end_at s at ≡ None → false ≡ is_some (entries s)
    unfolding is_some
    stopped e = sym (t.rest ∙ rw (tiled_none s at h e))

    pub turn : {q : ℕ} → end_at s at ≡ Some q → Tiling s q
    turn {q} e = record { inside = (entered s at e).inside; rest = t.rest ∙ rw (tiled_more s at h e) (tiled_after (entry_in s at q) (entries_from s q)) }

  pub ended : length s ≤ at → true ≡ is_some (entries s)
  unfolding is_some
  ended h = sym (t.rest ∙ rw (tiled_end s at h))

-- where entries tile the rest of a section, one ends
listed_after : (e : Entry) (o : Option (List Entry)) → T (is_some o) → listed (after o λ es. some (e ∷ es)) ≡ e ∷ listed o
unfolding after is_some listed
listed_after e none t = absurd t
listed_after e (some es) t = refl

module _ (s : List ℕ) (at : ℕ) (h : at < length s) (t : T (is_some (entries_from s at))) where
  pub ends_somewhere : end_at s at ≡ None → ⊥
  unfolding is_some
  ends_somewhere e = absurd (rw (tiled_none s at h e) at t)

  pub ends : {q : ℕ} → end_at s at ≡ Some q → Ends s at q
  ends {q} e =
      let a = entered s at e in
      let m = tiled_more s at h e in
      let t' : T (is_some (entries_from s q)) = rw (m, tiled_after (entry_in s at q) (entries_from s q)) at t in
      record { long = a.long; inside = a.inside; tiled = t'; rest = rw m (listed_after (entry_in s at q) (entries_from s q) t') }

-- ---- an entry's second field

module _ (s : List ℕ) where
  pub second_is : {v : ℕ} {q : Position} → little_at 4 s (from 0) ≡ Some (v, q) → second s ≡ v
  unfolding second value_or0
  second_is e = rw (little_rest s (from 0) (omega arith) e)

  pub second_none : little_at 4 s (from 0) ≡ None → second s ≡ 0
  unfolding second value_or0
  second_none e = rw (little_none s (from 0) 4 e)
