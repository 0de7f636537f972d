-- Accepted relocations fill stretches of a section: the laws from which a whole section is put together.
use mathlib.Core.Path.{◌≡◌, refl, ap, ◌∙◌}
use mathlib.Core.Bool.{◌&&◌}
use mathlib.Core.Option.{Option, none, some}
use mathlib.Core.List.{List, [], ◌∷◌, ◌++◌, append_assoc}
use Prim.Native.Nat.{ℕ, ◌+◌, ◌-◌, ◌≤◌}
use native.Mathlib.Omega.{arith}
use lib.Dec.{T, leb}
use lib.IntN.{ℤ, pos, ◌+ℤ◌, ◌-ℤ◌, pos-+ℤ-pos}
use lib.ListN.{length, length-append}
use mir.Syntax.{w64}
use mir.Val.{to_z}
use mir.Facts.{and_yes}
use Rattle.format.specs.Prelude.{after}
use Rattle.format.specs.Lists.{Relocation}
use Rattle.format.specs.Questions.{is_some}
use Rattle.format.proofs.Choice.{either, if-gt}
use Rattle.apply.specs.declared.Kind.{Kind}
use Rattle.apply.specs.Kinds.{kind_of, size_ok}
use Rattle.apply.specs.Fields.{up_to}
use Rattle.apply.specs.Values.{Layout, address_of, sum_of, apart}
use Rattle.apply.specs.Apply.{front, everywhere, paired, value_ok, sound, near, stores}
use Rattle.apply.proofs.Integers.{not_below, below}
use Rattle.apply_back.specs.Moved.{or_zero, between}

-- ---- relocations that are accepted behind some other

pub record Passes (l : Layout) (size : ℕ) (rs : List Relocation) : Type 0 where
  pub before : Option Relocation
  pub sound_ones : T (everywhere (sound l size) before rs)
  pub near_ones : T (everywhere (near l.symbols) before rs)

module _ {l : Layout} {size : ℕ} where
  passes_rest : (r : Relocation) (rs : List Relocation) → Passes l size (r ∷ rs) → Passes l size rs
  unfolding everywhere
  passes_rest r rs p =
      record {
        before = some r;
        sound_ones = (and_yes (sound l size p.before r (front rs)) (everywhere (sound l size) (some r) rs) p.sound_ones).1;
        near_ones = (and_yes (near l.symbols p.before r (front rs)) (everywhere (near l.symbols) (some r) rs) p.near_ones).1;
      }

  pub passes_behind : (rs ss : List Relocation) → Passes l size (rs ++ ss) → Passes l size ss
  passes_behind [] ss p = p
  passes_behind (r ∷ rs) ss p = passes_behind rs ss (passes_rest r (rs ++ ss) p)

  -- what is known of the first: its value, and its distance
  pub value_first : (r : Relocation) (rs : List Relocation) → Passes l size (r ∷ rs) → T (value_ok (kind_of r.kind) l r (front rs))
  unfolding everywhere sound
  value_first r rs p =
      let t = (and_yes (sound l size p.before r (front rs)) (everywhere (sound l size) (some r) rs) p.sound_ones).0 in
      let k : Kind = kind_of r.kind in
      (and_yes (size_ok k r.bytes && paired k p.before r (front rs) && is_some (address_of l.symbols r.symbol) && leb (r.place + r.bytes) size)
      (value_ok k l r (front rs)) t).1

  pub near_first : (r : Relocation) (rs : List Relocation) → Passes l size (r ∷ rs) → (b : Option Relocation) × T (near l.symbols b r (front rs))
  unfolding everywhere
  near_first r rs p =
      (p.before, (and_yes (near l.symbols p.before r (front rs)) (everywhere (near l.symbols) (some r) rs) p.near_ones).0)

-- ---- two labels: what Set and Sub, or a Sum pair, add up to

-- without addends
pub record Measured (ss : List (ℕ × ℕ)) (r s : Relocation) (most d : ℕ) : Type 0 where
  pub first : ℤ
  pub second : ℤ
  pub first_is : sum_of ss r ≡ some first
  pub second_is : sum_of ss s ≡ some second
  pub apart_is : first -ℤ second ≡ pos d
  pub small : d ≤ most

no_more : (n most : ℕ) → T (is_some (up_to most (pos n))) → n ≤ most
unfolding up_to is_some
no_more n most t = either n most (λ l. l) (λ g. absurd (rw (if-gt n most (some n) none g) at t))

apart_small : (most a b : ℕ) → T (is_some (up_to most (pos b -ℤ pos a))) → (pos b -ℤ pos a ≡ pos (b - a)) × (b - a ≤ most)
unfolding up_to is_some
apart_small most a b t =
    either a b (λ l. let e = not_below b a l in (e, no_more (b - a) most (rw e at t)))
    (λ g. absurd (rw (below b a g) at t))

module _ (ss : List (ℕ × ℕ)) (r s : Relocation) (er : r.addend ≡ 0) (es : s.addend ≡ 0) (most : ℕ) where
  both_known : (o q : Option ℕ) → address_of ss r.symbol ≡ o → address_of ss s.symbol ≡ q
      → T (is_some (after (apart ss r (some s)) λ z. up_to most z)) → Measured ss r s most (or_zero o - or_zero q)
  unfolding apart sum_of after is_some or_zero
  both_known none q eo eq t = absurd (rw eo at t)
  both_known (some b) none eo eq t = absurd (rw (eo, eq) at t)
  both_known (some b) (some a) eo eq t =
      let x : pos b +ℤ to_z w64 0 ≡ pos b = pos-+ℤ-pos b 0 ∙ ap pos (omega arith) in
      let y : pos a +ℤ to_z w64 0 ≡ pos a = pos-+ℤ-pos a 0 ∙ ap pos (omega arith) in
      let m = apart_small most a b (rw (eo, eq, er, es, x, y) at t) in
      record {
        first = pos b;
        second = pos a;
        first_is = rw (eo, er, x);
        second_is = rw (eq, es, y);
        apart_is = m.0;
        small = m.1;
      }

  pub measured : T (is_some (after (apart ss r (some s)) λ z. up_to most z)) → Measured ss r s most (between ss s.symbol r.symbol)
  unfolding between
  measured t = both_known (address_of ss r.symbol) (address_of ss s.symbol) refl refl t

-- ---- stretches

-- accepted, the relocations rs make of xs at the place `at` ys, whatever stands before and behind, and whatever follows in the list
abbrev pub Fills : Layout → (size : ℕ) → List Relocation → (at : ℕ) → List ℕ → List ℕ → Type 0
Fills l size rs at xs ys =
    (pre post : List ℕ) (ss : List Relocation) → length pre ≡ at → Passes l size (rs ++ ss)
    → stores l (pre ++ (xs ++ post)) (rs ++ ss) ≡ stores l (pre ++ (ys ++ post)) ss

module _ (l : Layout) (size : ℕ) where
  pub fills_none : (at : ℕ) (xs : List ℕ) → Fills l size [] at xs xs
  fills_none at xs pre post ss e p = refl

  pub fills_then : (rs ss : List Relocation) (at : ℕ) (xs ys zs : List ℕ) → Fills l size rs at xs ys → Fills l size ss at ys zs → Fills l size (rs ++ ss) at xs zs
  fills_then rs ss at xs ys zs f g pre post ts e p =
      let a : (rs ++ ss) ++ ts ≡ rs ++ (ss ++ ts) = append_assoc rs ss ts in
      let p' : Passes l size (rs ++ (ss ++ ts)) = rw a at p in
      rw a (f pre post (ss ++ ts) e p' ∙ g pre post ts e (passes_behind rs (ss ++ ts) p'))

  -- with more of the section before and behind
  pub fills_in : (rs : List Relocation) (at place : ℕ) (a b xs ys : List ℕ) → place ≡ at + length a → Fills l size rs place xs ys
      → Fills l size rs at (a ++ (xs ++ b)) (a ++ (ys ++ b))
  fills_in rs at place a b xs ys h f pre post ss e p =
      let shape : (us : List ℕ) → pre ++ ((a ++ (us ++ b)) ++ post) ≡ (pre ++ a) ++ (us ++ (b ++ post)) = λ us. simp append_assoc in
      rw (shape xs, shape ys) (f (pre ++ a) (b ++ post) ss (omega (arith, length-append pre a)) p)

  -- one stretch behind the other
  pub fills_join : (rs ss : List Relocation) (at place : ℕ) (us us' vs vs' : List ℕ) → length us' ≡ length us → place ≡ at + length us
      → Fills l size rs at us us' → Fills l size ss place vs vs' → Fills l size (rs ++ ss) at (us ++ vs) (us' ++ vs')
  fills_join rs ss at place us us' vs vs' n h f g pre post ts e p =
      let a : (rs ++ ss) ++ ts ≡ rs ++ (ss ++ ts) = append_assoc rs ss ts in
      let p' : Passes l size (rs ++ (ss ++ ts)) = rw a at p in
      let b : pre ++ ((us ++ vs) ++ post) ≡ pre ++ (us ++ (vs ++ post)) = simp append_assoc in
      let c : pre ++ ((us' ++ vs') ++ post) ≡ (pre ++ us') ++ (vs' ++ post) = simp append_assoc in
      let d : pre ++ (us' ++ (vs ++ post)) ≡ (pre ++ us') ++ (vs ++ post) = simp append_assoc in
      rw (a, b, c)
      (f pre (vs ++ post) (ss ++ ts) e p'
      ∙ rw d (g (pre ++ us') post ts (omega (arith, length-append pre us')) (passes_behind rs (ss ++ ts) p')))
