-- One code: the answers of the leaves, by the code's own tests.
use mathlib.Core.Path.{◌≡◌, sym, ap, ◌∙◌}
use mathlib.Core.Bool.{true, false, not, ◌&&◌, ◌||◌, and-true, and-false, or-true, and_assoc}
use Prim.Native.Nat.{ℕ, ◌+◌, ◌*◌, ◌≤◌, ◌<◌}
use native.Mathlib.Omega.{arith}
use lib.Dec.{ltb, eqb}
use borrow.Author.Tests.{le-leb, lt-leb, eq-eqb, ne_eqb, lt-ltb, le-ltb, ltb-true}
use Rattle.format.specs.Prelude.{pick}
use Rattle.arm64.specs.declared.Code.{Code}
use mathlib.Core.List.{List}
use lib.ListN.{get_or}
use Rattle.arm64.specs.Lists.{numbered_code}
use Rattle.arm64_simple.specs.declared.Run.{Run}
use Rattle.arm64_simple.specs.Saves.{place_of, saved_at}
use Rattle.arm64.specs.Codes.{code}
use Rattle.arm64.specs.Runs.{same_code, shorter, pair_in, has_next, next_pair, resolved, next_or}
use Rattle.std.proofs.lemmas.Bool.{and_parts, not-true, not-false}

-- what the derived comparison tells
pub same_is : (a b : Code) → (eqb a.kind b.kind && (eqb a.register b.register && eqb a.offset b.offset)) ≡ same_code a b
unfolding same_code
same_is a b = sym (and_assoc (eqb a.kind b.kind) (eqb a.register b.register) (eqb a.offset b.offset))

pub differing : (a b : Code) → true ≡ not (eqb a.kind b.kind && (eqb a.register b.register && eqb a.offset b.offset)) → same_code a b ≡ false
differing a b e = sym (same_is a b) ∙ not-true (eqb a.kind b.kind && (eqb a.register b.register && eqb a.offset b.offset)) (sym e)

pub agreeing : (a b : Code) → false ≡ not (eqb a.kind b.kind && (eqb a.register b.register && eqb a.offset b.offset)) → same_code a b ≡ true
agreeing a b e = sym (same_is a b) ∙ not-false (eqb a.kind b.kind && (eqb a.register b.register && eqb a.offset b.offset)) (sym e)

module _ (c : Code) where
  -- shorter
  module _ (k : c.kind ≡ 5) where
    other_push : (n : ℕ) → (5 ≡ n → ⊥) → eqb c.kind n ≡ false
    other_push n d = ne_eqb c.kind n λ e. d (sym k ∙ e)

    pub push_frame : c.register ≡ 29 → code 3 0 c.offset ≡ shorter c
    unfolding shorter pick
    push_frame r = simp (other_push 4 (λ e. absurd (omega (arith, e))), eq-eqb c.kind 5 k, eq-eqb c.register 29 r)

    pub push_other : (c.register ≡ 29 → ⊥) → (c.register ≡ 19 → ⊥) → c ≡ shorter c
    unfolding shorter pick
    push_other n m =
        simp (
          other_push 4 (λ e. absurd (omega (arith, e))),
          other_push 14 (λ e. absurd (omega (arith, e))),
          eq-eqb c.kind 5 k,
          ne_eqb c.register 29 n,
          ne_eqb c.register 19 m,
        )

    pub push_far : c.register ≡ 19 → 248 < c.offset → c ≡ shorter c
    unfolding shorter pick
    push_far r h =
        simp (
          other_push 4 (λ e. absurd (omega (arith, e))),
          other_push 14 (λ e. absurd (omega (arith, e))),
          eq-eqb c.kind 5 k,
          eq-eqb c.register 19 r,
          ne_eqb c.register 29 (λ e. absurd (omega (arith, e, r))),
          lt-leb c.offset 248 h,
        )

    pub push_first : c.register ≡ 19 → c.offset ≤ 248 → code 1 0 c.offset ≡ shorter c
    unfolding shorter pick
    push_first r h =
        simp (
          other_push 4 (λ e. absurd (omega (arith, e))),
          eq-eqb c.kind 5 k,
          eq-eqb c.register 19 r,
          ne_eqb c.register 29 (λ e. absurd (omega (arith, e, r))),
          le-leb c.offset 248 h,
        )

  pub pair_frame : c.kind ≡ 4 → c.register ≡ 29 → code 2 0 c.offset ≡ shorter c
  unfolding shorter pick
  pair_frame k r = simp (eq-eqb c.kind 4 k, eq-eqb c.register 29 r)

  pub pair_other : c.kind ≡ 4 → (c.register ≡ 29 → ⊥) → c ≡ shorter c
  unfolding shorter pick
  pair_other k n =
      simp (
        eq-eqb c.kind 4 k,
        ne_eqb c.register 29 n,
        ne_eqb c.kind 5 (λ e. absurd (omega (arith, e, k))),
        ne_eqb c.kind 14 (λ e. absurd (omega (arith, e, k))),
      )

  pub add_none : c.kind ≡ 14 → c.offset ≡ 0 → code 13 0 0 ≡ shorter c
  unfolding shorter pick
  add_none k z =
      simp (
        ne_eqb c.kind 4 (λ e. absurd (omega (arith, e, k))),
        ne_eqb c.kind 5 (λ e. absurd (omega (arith, e, k))),
        eq-eqb c.kind 14 k,
        eq-eqb c.offset 0 z,
      )

  pub add_some : c.kind ≡ 14 → (c.offset ≡ 0 → ⊥) → c ≡ shorter c
  unfolding shorter pick
  add_some k n =
      simp (
        ne_eqb c.kind 4 (λ e. absurd (omega (arith, e, k))),
        ne_eqb c.kind 5 (λ e. absurd (omega (arith, e, k))),
        eq-eqb c.kind 14 k,
        ne_eqb c.offset 0 n,
      )

  pub any_other : (c.kind ≡ 4 → ⊥) → (c.kind ≡ 5 → ⊥) → (c.kind ≡ 14 → ⊥) → c ≡ shorter c
  unfolding shorter pick
  any_other k m n = simp (ne_eqb c.kind 4 k, ne_eqb c.kind 5 m, ne_eqb c.kind 14 n)

  -- pair_in
  pub pair_4 : c.kind ≡ 4 → c ≡ pair_in c
  unfolding pair_in pick
  pair_4 k = simp (eq-eqb c.kind 4 k)

  pub pair_9 : c.kind ≡ 9 → c ≡ pair_in c
  unfolding pair_in pick
  pair_9 k = simp (eq-eqb c.kind 9 k, or-true)

  module _ (n : c.kind ≡ 4 → ⊥) (m : c.kind ≡ 9 → ⊥) where
    pub pair_1 : c.kind ≡ 1 → code 4 19 0 ≡ pair_in c
    unfolding pair_in pick
    pair_1 k = simp (ne_eqb c.kind 4 n, ne_eqb c.kind 9 m, eq-eqb c.kind 1 k)

    module _ (l : c.kind ≡ 1 → ⊥) where
      pub pair_5 : c.kind ≡ 5 → code 4 c.register 0 ≡ pair_in c
      unfolding pair_in pick
      pair_5 k = simp (ne_eqb c.kind 4 n, ne_eqb c.kind 9 m, ne_eqb c.kind 1 l, eq-eqb c.kind 5 k)

      module _ (o : c.kind ≡ 5 → ⊥) where
        pub pair_10 : c.kind ≡ 10 → code 9 c.register 0 ≡ pair_in c
        unfolding pair_in pick
        pair_10 k = simp (ne_eqb c.kind 4 n, ne_eqb c.kind 9 m, ne_eqb c.kind 1 l, ne_eqb c.kind 5 o, eq-eqb c.kind 10 k)

        pub pair_none : (c.kind ≡ 10 → ⊥) → code 15 0 0 ≡ pair_in c
        unfolding pair_in pick
        pair_none k = simp (ne_eqb c.kind 4 n, ne_eqb c.kind 9 m, ne_eqb c.kind 1 l, ne_eqb c.kind 5 o, ne_eqb c.kind 10 k)

  -- has_next, next_pair
  pub next_past : 28 < c.register → false ≡ has_next c
  unfolding has_next
  next_past h = let g : 29 ≤ c.register = omega arith in simp (le-ltb c.register 29 g, and-false)

  pub next_far : 1023 < c.offset → false ≡ has_next c
  unfolding has_next
  next_far h = let g : 1024 ≤ c.offset = omega arith in simp (le-ltb c.offset 1024 g, and-false)

  module _ (h : c.register ≤ 28) (g : c.offset ≤ 1023) where
    near : (ltb c.register 29 ≡ true) × (ltb c.offset 1024 ≡ true)
    near = (lt-ltb c.register 29 (omega (arith, h)), lt-ltb c.offset 1024 (omega (arith, g)))

    pub next_4 : c.kind ≡ 4 → true ≡ has_next c
    unfolding has_next
    next_4 k = simp (eq-eqb c.kind 4 k, near.0, near.1)

    pub next_9 : (c.kind ≡ 4 → ⊥) → eqb c.kind 9 ≡ has_next c
    unfolding has_next
    next_9 k = simp (ne_eqb c.kind 4 k, near.0, near.1, and-true)

  pub next_low : has_next c ≡ true → (c.register < 29) × (c.offset < 1024)
  unfolding has_next
  next_low e =
      let p = and_parts ((eqb c.kind 4 || eqb c.kind 9) && ltb c.register 29) (ltb c.offset 1024) e in
      (ltb-true c.register 29 (and_parts (eqb c.kind 4 || eqb c.kind 9) (ltb c.register 29) p.0).1, ltb-true c.offset 1024 p.1)

  pub next_there : has_next c ≡ true → code c.kind (c.register + 2) (c.offset + 16) ≡ next_pair c
  unfolding next_pair pick
  next_there e = simp e

  pub next_none : has_next c ≡ false → code 16 0 0 ≡ next_pair c
  unfolding next_pair pick
  next_none e = simp e

module _ (b c : Code) where
  pub resolved_next : c.kind ≡ 16 → next_pair b ≡ resolved b c
  unfolding resolved pick
  resolved_next k = simp (eq-eqb c.kind 16 k)

  pub resolved_same : (c.kind ≡ 16 → ⊥) → c ≡ resolved b c
  unfolding resolved pick
  resolved_same k = simp (ne_eqb c.kind 16 k)

  pub or_other : (c.kind ≡ 4 → ⊥) → c ≡ next_or b c
  unfolding next_or pick
  or_other k = simp (ne_eqb c.kind 4 k)

  pub or_next : c.kind ≡ 4 → same_code (next_pair b) c ≡ true → code 16 0 0 ≡ next_or b c
  unfolding next_or pick
  or_next k e = simp (eq-eqb c.kind 4 k, e)

  pub or_same : c.kind ≡ 4 → same_code (next_pair b) c ≡ false → c ≡ next_or b c
  unfolding next_or pick
  or_same k e = simp (eq-eqb c.kind 4 k, e)

pub saved_by : (cs : List ℕ) (r : Run) (i j : ℕ) → i ≡ place_of r j → code (get_or cs (3 * i) 0) (get_or cs (3 * i + 1) 0) (get_or cs (3 * i + 2) 0) ≡ saved_at cs r j
unfolding saved_at numbered_code
saved_by cs r i j e =
    let z : 3 * i ≡ 3 * i + 0 = omega arith in
    ap (λ (k : ℕ). code (get_or cs k 0) (get_or cs (3 * i + 1) 0) (get_or cs (3 * i + 2) 0)) z
    ∙ ap (λ (k : ℕ). code (get_or cs (3 * k + 0) 0) (get_or cs (3 * k + 1) 0) (get_or cs (3 * k + 2) 0)) e
