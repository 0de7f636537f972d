-- The pair of a step, searched by a loop, and the relocations of one step.
use mathlib.Core.Path.{◌≡◌, refl, sym, ap, ◌∙◌}
use Prim.Native.Nat.{ℕ, suc, ◌+◌, ◌-◌, ◌*◌, ◌/◌, ◌≤◌, ◌<◌}
use native.Mathlib.Omega.{arith}
use native.Mathlib.Numerals.{add-one}
use mathlib.Core.Bool.{Bool, true, false}
use mathlib.Core.Option.{Option, none, some}
use mathlib.Core.List.{List, [], ◌∷◌}
use lib.ListN.{length, get_or, length-append}
use Rattle.std.specs.Prelude.{take, drop}
use Rattle.std.proofs.lemmas.List.{length-drop, length-take-le, get_or-take, get_or-drop}
use Rattle.format.specs.Prelude.{pick, first, each}
use Rattle.format.specs.Rows.{RowAt, row_bytes, step_bytes, step_form}
use Rattle.format.specs.Lists.{Pair, pair_at, pair_stride, count}
use Rattle.format.specs.Records.{pair_for, set_pair, step_relocs}
use Rattle.records.specs.Labels.{is_for, pair_between, step_pair}
use Rattle.records.proofs.Chunks.{each_moved}

-- ---- the search

-- at pair i of the n from `at` on, none before it is for the step
pub record Seeking (from to : ℕ) (pairs : List ℕ) (at n i : ℕ) : Type 0 where
  pub high : i ≤ at + n
  pub rest : pair_between from to pairs at n ≡ pair_between from to pairs i (at + n - i)

pub start : (from to : ℕ) (pairs : List ℕ) (at n : ℕ) → Seeking from to pairs at n at
start from to pairs at n = record { high = omega arith; rest = let e : n ≡ at + n - at = omega arith in ap (pair_between from to pairs at) e }

none_left : (from to : ℕ) (pairs : List ℕ) (at : ℕ) → pair_between from to pairs at 0 ≡ none
unfolding pair_between pair_for first each
none_left from to pairs at = refl

one_more : (from to : ℕ) (pairs : List ℕ) (at n : ℕ)
    → pair_between from to pairs at (suc n) ≡ pick (is_for from to (pair_at pairs at)) (some (pair_at pairs at)) (pair_between from to pairs (suc at) n)
unfolding pair_between pair_for first each is_for
one_more from to pairs at n = refl

module _ {from to : ℕ} {pairs : List ℕ} {at n i : ℕ} (s : Seeking from to pairs at n i) where
  module _ {r : Bool} (h : i < at + n) (e : r ≡ is_for from to (pair_at pairs i)) where
    here : pair_between from to pairs at n ≡ pick r (some (pair_at pairs i)) (pair_between from to pairs (i + 1) (at + n - (i + 1)))
    here =
        let m : at + n - i ≡ suc (at + n - suc i) = omega arith in
        s.rest ∙ rw (add-one i, m, e) (one_more from to pairs i (at + n - suc i))

    pub turn : r ≡ false → Seeking from to pairs at n (i + 1)
    unfolding pick
    turn t = record { high = omega arith; rest = here ∙ simp t }

    pub found : r ≡ true → some (pair_at pairs i) ≡ pair_between from to pairs at n
    unfolding pick
    found t = sym (here ∙ simp t)

  pub ended : at + n ≤ i → none ≡ pair_between from to pairs at n
  ended h =
      let m : at + n - i ≡ 0 = omega arith in
      sym (s.rest ∙ rw m (none_left from to pairs i))

-- ---- the part of a list that has a function's pairs

module _ (ps : List ℕ) (at n : ℕ) where
  part_at : (i : ℕ) → i < n → pair_at (take (4 * n) (drop (4 * at) ps)) i ≡ pair_at ps (at + i)
  unfolding pair_at
  part_at i h =
      let f : (j : ℕ) → j < 4 → get_or (take (4 * n) (drop (4 * at) ps)) (4 * i + j) 0 ≡ get_or ps (4 * (at + i) + j) 0 =
      λ j l. get_or-take (4 * n) (drop (4 * at) ps) (4 * i + j) 0 (omega arith) ∙ get_or-drop (4 * at) ps (4 * i + j) 0 ∙ ap (λ k. get_or ps k 0) (omega arith) in
      rw (f 0 (omega arith), f 1 (omega arith), f 2 (omega arith), f 3 (omega arith))

  pub pairs_part : at + n ≤ count pair_stride ps
      → each (pair_at (take (4 * at + 4 * n - 4 * at) (drop (4 * at) ps))) 0 (count pair_stride (take (4 * at + 4 * n - 4 * at) (drop (4 * at) ps))) ≡ each (pair_at ps) at n
  pairs_part h =
      let e : 4 * at + 4 * n - 4 * at ≡ 4 * n = omega arith in
      let l : length (take (4 * n) (drop (4 * at) ps)) ≡ 4 * n = length-take-le (4 * n) (drop (4 * at) ps) (omega (arith, length-drop (4 * at) ps)) in
      let k : 4 * n / 4 ≡ n = omega arith in
      let z : at + 0 ≡ at = omega arith in
      rw (e, l, k) (rw z at (each_moved (pair_at (take (4 * n) (drop (4 * at) ps))) (pair_at ps) at n part_at 0 n (omega arith)))

-- ---- the relocations of one step

-- by the code's answers
pub step_is : (place from to : ℕ) (ps : List Pair) {form : ℕ} {o : Option Pair} → form ≡ step_form (to - from) → o ≡ pair_for from to ps
    → set_pair place form o ≡ step_pair place from to ps
unfolding step_pair
step_is place from to ps e q = rw (e, q)

-- how many there are does not depend on the place and the form
set_count : (place form : ℕ) (o : Option Pair) → length (set_pair place form o) ≡ length (set_pair 0 0 o)
unfolding set_pair
set_count place form none = refl
set_count place form (some p) = refl

pub pairs_counted : (from to : ℕ) (ps : List Pair) {o : Option Pair} → o ≡ pair_for from to ps → length (set_pair 0 0 o) ≡ length (step_pair 0 from to ps)
unfolding step_pair
pairs_counted from to ps q = rw q (sym (set_count 0 (step_form (to - from)) (pair_for from to ps)))

set_most : (place form : ℕ) (o : Option Pair) → length (set_pair place form o) ≤ 2
unfolding set_pair
set_most place form none = omega arith
set_most place form (some p) = omega arith

-- nor does that of rows
pub steps_count : (w place at : ℕ) (ps : List Pair) (xs : List RowAt) → length (step_relocs w place at ps xs) ≡ length (step_relocs 0 0 at ps xs)
unfolding step_relocs
steps_count w place at ps [] = refl
steps_count w place at ps (x ∷ xs) =
    simp length-append
    (omega (
      arith,
      set_count place (step_form (x.0 - at)) (pair_for at x.0 ps),
      set_count 0 (step_form (x.0 - at)) (pair_for at x.0 ps),
      steps_count w (place + length (step_bytes (x.0 - at)) + length (row_bytes w x.1)) x.0 ps xs,
      steps_count 0 (0 + length (step_bytes (x.0 - at)) + length (row_bytes 0 x.1)) x.0 ps xs,
    ))

pub steps_most : (w place at : ℕ) (ps : List Pair) (xs : List RowAt) → length (step_relocs w place at ps xs) ≤ 2 * length xs
unfolding step_relocs
steps_most w place at ps [] = omega arith
steps_most w place at ps (x ∷ xs) =
    rw length-append
    (omega (
      arith,
      set_most place (step_form (x.0 - at)) (pair_for at x.0 ps),
      steps_most w (place + length (step_bytes (x.0 - at)) + length (row_bytes w x.1)) x.0 ps xs,
    ))
