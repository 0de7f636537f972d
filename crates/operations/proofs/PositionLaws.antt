-- Laws of positions: what a reader takes off a list, how far the position past it is, and what is left there.
use mathlib.Core.Path.{◌≡◌, refl, sym, ap, ◌∙◌}
use Prim.Native.Nat.{ℕ, zero, suc, ◌+◌, ◌-◌, ◌*◌, ◌^◌, ◌≤◌, ◌<◌}
use native.Mathlib.Omega.{arith}
use mathlib.Core.Bool.{Bool, true, false, ◌&&◌, and-true, and_assoc}
use mathlib.Core.Option.{none, some}
use mathlib.Core.List.{List, [], ◌∷◌}
use lib.ListN.{length, drop, length-drop}
use lib.Seq.{drop-drop}
use lib.Dec.{ltb, eqb}
use lib.IntN.{ℤ}
use Rattle.std.specs.Prelude.{Some, None}
use Rattle.format.specs.Prelude.{pick, Read, next}
use Rattle.format.specs.Leb.{uleb, sleb, read_little, read_uleb_f, read_uleb, push, last7, read_sleb_f, fits64, read_sleb}
use Rattle.format.specs.Shortest.{Number, unsigned, signed, shortest, read_mark, marked, numbers_short}
use Rattle.operations.specs.Positions.{past, read_from, uleb_at, sleb_at, little_at}
use Rattle.operations.specs.declared.fields.Position.{Position}

-- ---- what a reader takes: where it reads something, at least lo and at most hi bytes of bs, and the rest is left

pub data Takes {A : Type 0} (lo hi : ℕ) (bs : List ℕ) : Read A → Type 0 where
  nothing : Takes lo hi bs none
  taken : (n : ℕ) (v : A) → lo ≤ n → n ≤ hi → n ≤ length bs → Takes lo hi bs (some (v, drop n bs))

pub takes_pick : {A : Type 0} {lo hi : ℕ} {bs : List ℕ} (t : Bool) {a b : Read A} → Takes lo hi bs a → Takes lo hi bs b → Takes lo hi bs (pick t a b)
unfolding pick
takes_pick true x y = x
takes_pick false x y = y

-- one byte is taken off, and then more
pub takes_byte : {A : Type 0} {lo hi : ℕ} (b : ℕ) {bs : List ℕ} {r : Read A} → Takes lo hi bs r → Takes (suc lo) (suc hi) (b ∷ bs) r
takes_byte b nothing = nothing
takes_byte b (taken n v l h m) = taken (suc n) v (omega arith) (omega arith) (omega arith)

takes_after : {A : Type 0} {lo hi lo' hi' : ℕ} (n : ℕ) (bs : List ℕ) {r : Read A} → lo ≤ n → n ≤ hi → n ≤ length bs → Takes lo' hi' (drop n bs) r
    → Takes (lo + lo') (hi + hi') bs r
takes_after n bs l h m nothing = nothing
takes_after n bs l h m (taken k v l' h' m') = rw drop-drop (taken (n + k) v (omega arith) (omega arith) (omega (arith, length-drop n bs)))

pub takes_next : {A B : Type 0} {lo hi lo' hi' : ℕ} {bs : List ℕ} {r : Read A} {k : A → List ℕ → Read B}
    → Takes lo hi bs r → ((a : A) (rest : List ℕ) → Takes lo' hi' rest (k a rest)) → Takes (lo + lo') (hi + hi') bs (next r k)
unfolding next
takes_next nothing u = nothing
takes_next {bs = bs} (taken n v l h m) u = takes_after n bs l h m (u v (drop n bs))

-- the bounds of more readers
pub takes_within : {A : Type 0} {lo hi lo' hi' : ℕ} {bs : List ℕ} {r : Read A} → lo' ≤ lo → hi ≤ hi' → Takes lo hi bs r → Takes lo' hi' bs r
takes_within l h nothing = nothing
takes_within l h (taken n v l' h' m) = taken n v (omega arith) (omega arith) m

-- what a reader gives without taking
pub gives : {A : Type 0} (v : A) (bs : List ℕ) → Takes 0 0 bs (some (v, bs))
gives v bs = taken 0 v (omega arith) (omega arith) (omega arith)

-- ---- the readers

pub takes_little : (k : ℕ) (bs : List ℕ) → Takes k k bs (read_little k bs)
unfolding read_little
takes_little zero bs = gives 0 bs
takes_little (suc k) [] = nothing
takes_little (suc k) (b ∷ bs) =
    takes_within (omega arith) (omega arith) (takes_next (takes_byte b (takes_little k bs)) (λ v r. gives (b + 256 * v) r))

-- a byte of a LEB number: the last, or one with more behind it
takes_group : {A : Type 0} {f : ℕ} (b : ℕ) (bs : List ℕ) (last : A) (more : A → A) {r : Read A} → Takes 1 f bs r
    → Takes 1 (suc f) (b ∷ bs) (pick (ltb b 128) (some (last, bs)) (next r λ v rest. some (more v, rest)))
takes_group b bs last more t =
    takes_pick (ltb b 128) (takes_within (omega arith) (omega arith) (takes_byte b (gives last bs)))
    (takes_within (omega arith) (omega arith) (takes_next (takes_byte b t) (λ v rest. gives (more v) rest)))

takes_uleb_f : (f : ℕ) (bs : List ℕ) → Takes 1 f bs (read_uleb_f f bs)
unfolding read_uleb_f
takes_uleb_f zero bs = nothing
takes_uleb_f (suc f) [] = nothing
takes_uleb_f (suc f) (b ∷ bs) = takes_group b bs b (λ v. b - 128 + 128 * v) (takes_uleb_f f bs)

pub takes_uleb : (bs : List ℕ) → Takes 1 10 bs (read_uleb bs)
unfolding read_uleb
takes_uleb bs = takes_next (takes_uleb_f 10 bs) (λ v r. takes_pick (ltb v (2 ^ 64)) (gives v r) nothing)

takes_sleb_f : (f : ℕ) (bs : List ℕ) → Takes 1 f bs (read_sleb_f f bs)
unfolding read_sleb_f
takes_sleb_f zero bs = nothing
takes_sleb_f (suc f) [] = nothing
takes_sleb_f (suc f) (b ∷ bs) = takes_group b bs (last7 b) (push (b - 128)) (takes_sleb_f f bs)

pub takes_sleb : (bs : List ℕ) → Takes 1 10 bs (read_sleb bs)
unfolding read_sleb
takes_sleb bs = takes_next (takes_sleb_f 10 bs) (λ v r. takes_pick (fits64 v) (gives v r) nothing)

-- ---- positions: what was read from p on is v, q is the position past it, and the rest stands there

pub record Ahead {A : Type 0} (lo hi : ℕ) (s : List ℕ) (p q : ℕ) (r : Read A) (v : A) : Type 0 where
  pub least : p + lo ≤ q
  pub most : q ≤ p + hi
  pub inside : q ≤ length s
  pub rest : r ≡ some (v, drop q s)

-- a reader that takes something reads inside the list
pub ahead : {lo hi : ℕ} → 0 < lo → (s : List ℕ) (p : ℕ) {A : Type 0} (n : ℕ) (w v : A) (q : ℕ) → lo ≤ n → n ≤ hi → n ≤ length (drop p s) → w ≡ v
    → length s - length (drop n (drop p s)) ≡ q → Ahead lo hi s p q (some (w, drop n (drop p s))) v
ahead byte s p n w v q l h m same e =
    let a : q ≡ p + n = omega (arith, length-drop n (drop p s), length-drop p s) in
    record { least = omega arith; most = omega arith; inside = omega (arith, length-drop p s); rest = rw (drop-drop, a, same) }

-- the place in front of what is left
pub past_drop : (s : List ℕ) (q : ℕ) → q ≤ length s → length s - length (drop q s) ≡ q
past_drop s q h = omega (arith, length-drop q s)

-- q is the position past what was read from p on, with its mark
pub record Past (p : Position) (b : Bool) (q : Position) : Type 0 where
  pub is : past p b q.at ≡ q

module _ (p : Position) (b : Bool) (n : ℕ) {q : Position} (e : past p b n ≡ q) where
  pub past_at : n ≡ q.at
  unfolding past
  past_at = ap (λ (x : Position). x.at) e

  pub past_is : Past p b q
  past_is = record { is = ap (past p b) (sym past_at) ∙ e }

-- what was read, and the position past it
pub both_are : {A B : Type 0} {x y : A × B} → Some x ≡ Some y → (x.0 ≡ y.0) × (x.1 ≡ y.1)
both_are {A} {B} {x} {y} e = let i : x ≡ y = cc in (ap (λ (z : A × B). z.0) i, ap (λ (z : A × B). z.1) i)

pub read_ahead : {A : Type 0} {lo hi : ℕ} (byte : 0 < lo) (s : List ℕ) (p : Position) (b : Bool) {r : Read A} {v : A} {q : Position}
    → Takes lo hi (drop p.at s) r → read_from p b (length s) r ≡ Some (v, q) → Ahead lo hi s p.at q.at r v
unfolding read_from
read_ahead byte s p b nothing e = let z : ◌≡◌ {A = ℕ} 0 1 = cc in absurd (omega arith)
read_ahead byte s p b {v = v} {q = q} (taken n w l h m) e = ahead byte s p.at n w v q.at l h m (both_are e).0 (past_at p b _ (both_are e).1)

module _ {A : Type 0} (p : Position) (b : Bool) (size : ℕ) where
  pub read_past : (r : Read A) {v : A} {q : Position} → read_from p b size r ≡ Some (v, q) → Past p b q
  unfolding read_from
  read_past none e = let z : ◌≡◌ {A = ℕ} 0 1 = cc in absurd (omega arith)
  read_past (some x) e = past_is p b _ (both_are e).1

  pub read_none : (r : Read A) → read_from p b size r ≡ None → r ≡ none
  unfolding read_from
  read_none none e = refl
  read_none (some x) e = let z : ◌≡◌ {A = ℕ} 0 1 = cc in absurd (omega arith)

-- ---- what the callers of the readers know: the position past, what the rest of the definition reads, and a refusal

module _ (s : List ℕ) (p : Position) where
  module _ {v : ℕ} {q : Position} (e : uleb_at s p ≡ Some (v, q)) where
    uleb_there : Ahead 1 10 s p.at q.at (read_uleb (drop p.at s)) v
    unfolding uleb_at
    uleb_there = read_ahead (omega arith) s p _ (takes_uleb (drop p.at s)) e

    pub uleb_ahead : (p.at < q.at) × (q.at ≤ length s)
    uleb_ahead = (omega (arith, uleb_there.least), uleb_there.inside)

    pub uleb_rest : read_uleb (drop p.at s) ≡ some (v, drop q.at s)
    uleb_rest = uleb_there.rest

    pub uleb_past : Past p (numbers_short (unsigned ∷ []) (drop p.at s)) q
    unfolding uleb_at
    uleb_past = read_past p _ (length s) (read_uleb (drop p.at s)) e

  pub uleb_none : uleb_at s p ≡ None → read_uleb (drop p.at s) ≡ none
  unfolding uleb_at
  uleb_none e = read_none p _ (length s) (read_uleb (drop p.at s)) e

  module _ {v : ℤ} {q : Position} (e : sleb_at s p ≡ Some (v, q)) where
    sleb_there : Ahead 1 10 s p.at q.at (read_sleb (drop p.at s)) v
    unfolding sleb_at
    sleb_there = read_ahead (omega arith) s p _ (takes_sleb (drop p.at s)) e

    pub sleb_ahead : (p.at < q.at) × (q.at ≤ length s)
    sleb_ahead = (omega (arith, sleb_there.least), sleb_there.inside)

    pub sleb_rest : read_sleb (drop p.at s) ≡ some (v, drop q.at s)
    sleb_rest = sleb_there.rest

    pub sleb_past : Past p (numbers_short (signed ∷ []) (drop p.at s)) q
    unfolding sleb_at
    sleb_past = read_past p _ (length s) (read_sleb (drop p.at s)) e

  pub sleb_none : sleb_at s p ≡ None → read_sleb (drop p.at s) ≡ none
  unfolding sleb_at
  sleb_none e = read_none p _ (length s) (read_sleb (drop p.at s)) e

  -- a field of no bytes past the end is read as 0, at the end: so k is not 0
  module _ {k v : ℕ} {q : Position} (byte : 0 < k) (e : little_at k s p ≡ Some (v, q)) where
    little_there : Ahead k k s p.at q.at (read_little k (drop p.at s)) v
    unfolding little_at
    little_there = read_ahead byte s p true (takes_little k (drop p.at s)) e

    pub little_ahead : (p.at + k ≡ q.at) × (q.at ≤ length s)
    little_ahead = (omega (arith, little_there.least, little_there.most), little_there.inside)

    pub little_rest : read_little k (drop p.at s) ≡ some (v, drop q.at s)
    little_rest = little_there.rest

    pub little_past : Past p true q
    unfolding little_at
    little_past = read_past p true (length s) (read_little k (drop p.at s)) e

  pub little_none : (k : ℕ) → little_at k s p ≡ None → read_little k (drop p.at s) ≡ none
  unfolding little_at
  little_none k e = read_none p true (length s) (read_little k (drop p.at s)) e

-- ---- marks of numbers one behind the other

-- a number in front of others
pub mark_first : (n : Number) (ns : List Number) (bs : List ℕ) {rest : List ℕ} {m : Bool} → read_mark n bs ≡ some (m, rest)
    → numbers_short (n ∷ ns) bs ≡ (numbers_short (n ∷ []) bs && numbers_short ns rest)
unfolding numbers_short marked
mark_first n ns bs {m = m} e = rw (e, and-true m)

-- positions one behind the other
past_joined : (p q r : Position) (a b c : Bool) → past p a q.at ≡ q → past q b r.at ≡ r → c ≡ (a && b) → past p c r.at ≡ r
unfolding past
past_joined p q r a b c e f g =
    let k : q.shortest ≡ (p.shortest && a) = ap (λ (x : Position). x.shortest) (sym e) in
    rw (g, ← and_assoc p.shortest a b, ← k) f

pub past_both : {p q r : Position} {a b c : Bool} → Past p a q → Past q b r → c ≡ (a && b) → Past p c r
past_both e f g = record { is = past_joined _ _ _ _ _ _ e.is f.is g }

pub past_mark : {p : Position} {b : Bool} {q : Position} → Past p b q → q.shortest ≡ (p.shortest && b)
unfolding past
past_mark e = ap (λ (x : Position). x.shortest) (sym e.is)

-- a number is read, and the numbers behind it are left
module _ (s : List ℕ) (p : Position) where
  mark_on : (n : Number) {q : Position} {m : Bool} → read_mark n (drop p.at s) ≡ some (m, drop q.at s) → Past p (numbers_short (n ∷ []) (drop p.at s)) q
      → (ns : List Number) → (p.shortest && numbers_short (n ∷ ns) (drop p.at s)) ≡ (q.shortest && numbers_short ns (drop q.at s))
  mark_on n {q} e i ns =
      ap (λ (b : Bool). p.shortest && b) (mark_first n ns (drop p.at s) e)
      ∙ sym (and_assoc p.shortest (numbers_short (n ∷ []) (drop p.at s)) (numbers_short ns (drop q.at s)))
      ∙ ap (λ (b : Bool). b && numbers_short ns (drop q.at s)) (sym (past_mark i))

  pub uleb_on : {v : ℕ} {q : Position} → uleb_at s p ≡ Some (v, q) → (ns : List Number)
      → (p.shortest && numbers_short (unsigned ∷ ns) (drop p.at s)) ≡ (q.shortest && numbers_short ns (drop q.at s))
  unfolding read_mark shortest next
  uleb_on {v} {q} e ns = mark_on unsigned {m = eqb (length (drop p.at s) - length (drop q.at s)) (length (uleb v))} (rw (uleb_rest s p e)) (uleb_past s p e) ns

  pub sleb_on : {v : ℤ} {q : Position} → sleb_at s p ≡ Some (v, q) → (ns : List Number)
      → (p.shortest && numbers_short (signed ∷ ns) (drop p.at s)) ≡ (q.shortest && numbers_short ns (drop q.at s))
  unfolding read_mark shortest next
  sleb_on {v} {q} e ns = mark_on signed {m = eqb (length (drop p.at s) - length (drop q.at s)) (length (sleb v))} (rw (sleb_rest s p e)) (sleb_past s p e) ns

-- a field has no mark
pub little_kept : (s : List ℕ) (p : Position) {k v : ℕ} {q : Position} → 0 < k → little_at k s p ≡ Some (v, q) → q.shortest ≡ p.shortest
little_kept s p h e = past_mark (little_past s p h e) ∙ and-true p.shortest
