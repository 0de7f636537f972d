-- The loops over the relocations: what is asked of all is asked of the rest, and what is to be stored is stored by the rest.
use Rattle.std.proofs.Common.{◌≡◌, ℕ, zero, suc, ◌+◌, ◌-◌, ◌/◌, ◌<◌, ◌≤◌, Bool, ◌&&◌, T, List, [], ◌∷◌, length, sym, refl, ap, ◌∙◌, subst, add-one, arith, ne_eqb}
use mathlib.Core.Option.{Option, none, some}
use Rattle.std.specs.List.{range_with_len, list_all}
use mir.Facts.{and_yes}
use Rattle.format.specs.Prelude.{pick, each}
use Rattle.format.specs.Lists.{Relocation, relocation_at, relocations_of}
use Rattle.format.proofs.Choice.{if-le, if-gt}
use Rattle.apply.specs.Values.{Layout, store_of}
use Rattle.apply.specs.Apply.{Test, front, everywhere, sound, stores}
use Rattle.apply.specs.Standing.{before_at, behind_at}

-- the relocations from the i-th on
abbrev pub rest_at : List ℕ → ℕ → List Relocation
rest_at rs i = each (relocation_at rs) i (length rs / 5 - i)

module _ (rs : List ℕ) where
  front_is : (i : ℕ) (m : ℕ) → m ≡ length rs / 5 - (i + 1) → front (each (relocation_at rs) (i + 1) m) ≡ behind_at rs i
  unfolding front each behind_at
  front_is i zero e = let h : length rs / 5 < suc (i + 1) = omega arith in rw (if-gt (suc (i + 1)) (length rs / 5))
  front_is i (suc m) e = let h : suc (i + 1) ≤ length rs / 5 = omega arith in rw (if-le (suc (i + 1)) (length rs / 5))

  pub first_before : before_at rs 0 ≡ none
  unfolding before_at pick
  first_before = refl

  pub next_before : (i : ℕ) → some (relocation_at rs i) ≡ before_at rs (i + 1)
  unfolding before_at pick
  next_before i =
      let n : i + 1 ≡ 0 → ⊥ = λ e. omega arith in
      let f : i + 1 - 1 ≡ i = omega arith in
      simp (ne_eqb (i + 1) 0 n, f)

  pub all_rest : rest_at rs 0 ≡ relocations_of rs
  unfolding relocations_of
  all_rest = let e : length rs / 5 - 0 ≡ length rs / 5 = omega arith in ap (each (relocation_at rs) 0) e

  pub rest_more : (i : ℕ) → i < length rs / 5 → rest_at rs i ≡ relocation_at rs i ∷ rest_at rs (i + 1)
  unfolding each
  rest_more i h = let e : length rs / 5 - i ≡ suc (length rs / 5 - (i + 1)) = omega arith in rw e (simp add-one)

  pub rest_none : (i : ℕ) → length rs / 5 ≤ i → rest_at rs i ≡ []
  unfolding each
  rest_none i h = let e : length rs / 5 - i ≡ 0 = omega arith in rw e

  pub front_rest : (i : ℕ) → front (rest_at rs (i + 1)) ≡ behind_at rs i
  front_rest i = front_is i (length rs / 5 - (i + 1)) refl

  -- ---- a test of all

  -- the test of relocation i
  abbrev pub asked : Test → ℕ → Bool
  asked test i = test (before_at rs i) (relocation_at rs i) (behind_at rs i)

  one_more : (test : Test) (i : ℕ) → i < length rs / 5
      → everywhere test (before_at rs i) (rest_at rs i) ≡ asked test i && everywhere test (before_at rs (i + 1)) (rest_at rs (i + 1))
  unfolding everywhere
  one_more test i h =
      ap (everywhere test (before_at rs i)) (rest_more i h)
      ∙ ap (λ (o : Option Relocation). test (before_at rs i) (relocation_at rs i) o && everywhere test (some (relocation_at rs i)) (rest_at rs (i + 1))) (front_rest i)
      ∙ ap (λ (o : Option Relocation). asked test i && everywhere test o (rest_at rs (i + 1))) (next_before i)

  rest_asked : (test : Test) (i n : ℕ) → i + n ≡ length rs / 5 → list_all (asked test) (range_with_len i n) ≡ everywhere test (before_at rs i) (rest_at rs i)
  unfolding everywhere
  rest_asked test i zero e = rw (rest_none i (omega arith))
  rest_asked test i (suc n) e =
      rw (one_more test i (omega arith)) (ap (λ (b : Bool). asked test i && b) (rest_asked test (i + 1) n (omega arith)))

  none_before : (test : Test) → everywhere test none (relocations_of rs) ≡ everywhere test (before_at rs 0) (rest_at rs 0)
  none_before test = ap (everywhere test none) (sym all_rest) ∙ ap (λ (b : Option Relocation). everywhere test b (rest_at rs 0)) (sym first_before)

  pub all_asked : (test : Test) → list_all (asked test) (range_with_len 0 (length rs / 5)) ≡ everywhere test none (relocations_of rs)
  all_asked test = rest_asked test 0 (length rs / 5) (omega arith) ∙ sym (none_before test)

  -- ---- the stores

  pub record Placing (l : Layout) (bs₀ bs : List ℕ) (i : ℕ) : Type 0 where
    pub inside : i ≤ length rs / 5
    pub kept : length bs ≡ length bs₀
    pub sound_rest : T (everywhere (sound l (length bs₀)) (before_at rs i) (rest_at rs i))
    pub rest : stores l bs (rest_at rs i) ≡ stores l bs₀ (relocations_of rs)

  pub place_start : (l : Layout) (bs : List ℕ) → T (everywhere (sound l (length bs)) none (relocations_of rs)) → Placing l bs bs 0
  place_start l bs t = record {
    inside = omega arith;
    kept = refl;
    sound_rest = subst T (none_before (sound l (length bs))) t;
    rest = ap (stores l bs) all_rest;
  }

  module _ {l : Layout} {bs₀ bs : List ℕ} {i : ℕ} (k : Placing l bs₀ bs i) where
    pub place_ended : length rs / 5 ≤ i → bs ≡ stores l bs₀ (relocations_of rs)
    unfolding stores
    place_ended h = sym (ap (stores l bs) (rest_none i h)) ∙ k.rest

    module _ (h : i < length rs / 5) where
      split : T (sound l (length bs₀) (before_at rs i) (relocation_at rs i) (behind_at rs i)) × T (everywhere (sound l (length bs₀)) (before_at rs (i + 1)) (rest_at rs (i + 1)))
      unfolding everywhere
      split =
          and_yes (sound l (length bs₀) (before_at rs i) (relocation_at rs i) (behind_at rs i)) (everywhere (sound l (length bs₀)) (before_at rs (i + 1)) (rest_at rs (i + 1)))
          (subst T (one_more (sound l (length bs₀)) i h) k.sound_rest)

      pub here_sound : T (sound l (length bs₀) (before_at rs i) (relocation_at rs i) (behind_at rs i))
      here_sound = split.0

      pub place_turn : (bs' : List ℕ) → length bs' ≡ length bs → bs' ≡ store_of l bs (relocation_at rs i) (behind_at rs i) → Placing l bs₀ bs' (i + 1)
      unfolding stores
      place_turn bs' s e = record {
        inside = omega arith;
        kept = s ∙ k.kept;
        sound_rest = split.1;
        rest =
            ap (λ (b : List ℕ). stores l b (rest_at rs (i + 1))) e
            ∙ ap (λ (o : Option Relocation). stores l (store_of l bs (relocation_at rs i) o) (rest_at rs (i + 1))) (sym (front_rest i))
            ∙ ap (stores l bs) (sym (rest_more i h))
            ∙ k.rest;
      }
