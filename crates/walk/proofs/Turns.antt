-- The registers of a frame that is left, one in a turn: those before i are new, and what is left to do is in the definition.
use mathlib.Core.Path.{◌≡◌, refl, sym, ap, ap₂, ◌∙◌}
use mathlib.Core.List.{List, [], ◌∷◌, ◌++◌, append_assoc, append-nil}
use Prim.Native.Nat.{ℕ, suc, ◌+◌, ◌-◌, ◌<◌, ◌≤◌}
use native.Mathlib.Omega.{arith}
use native.Mathlib.Numerals.{add-one}
use lib.ListN.{length, set, take}
use lib.Seq.{take-suc-set, take_all}
use Rattle.std.specs.Prelude as code
use Rattle.format.specs.Prelude.{Result, good, bad, onward}
use Rattle.walk.specs.Recorded.{Slot}
use Rattle.walk.specs.Walk.{left_from}
use Rattle.walk.specs.Standing.{slot_of, slots}
use Rattle.walk.proofs.Files.{slots_length, slots_set}

unfoldable pub prepend : List Slot → Result (List Slot) → Result (List Slot)
prepend xs r = onward r λ ys. good (xs ++ ys)

nothing : (r : Result (List Slot)) → prepend [] r ≡ r
unfolding prepend onward
nothing (good ys) = refl
nothing (bad n) = refl

prepend_more : (xs : List Slot) (v : Slot) (r : Result (List Slot)) → prepend (xs ++ (v ∷ [])) r ≡ prepend xs (onward r λ ys. good (v ∷ ys))
unfolding prepend onward
prepend_more xs v (good ys) = ap good (append_assoc xs (v ∷ []) ys)
prepend_more xs v (bad n) = refl

pub record Turning (one : ℕ → Result Slot) (rs : List (code.Option ℕ)) (i : ℕ) : Type 0 where
  pub inside : i ≤ 128
  pub full : length rs ≡ 128
  pub rest : prepend (take i (slots rs)) (left_from one i (128 - i)) ≡ left_from one 0 128

pub turn_start : (one : ℕ → Result Slot) (rs : List (code.Option ℕ)) → length rs ≡ 128 → Turning one rs 0
turn_start one rs l = record { inside = omega arith; full = l; rest = nothing (left_from one 0 128) }

module _ {one : ℕ → Result Slot} {rs : List (code.Option ℕ)} {i : ℕ} (k : Turning one rs i) where
  long : length (slots rs) ≡ 128
  long = slots_length rs ∙ k.full

  module _ (h : i < 128) where
    fuel : 128 - i ≡ suc (128 - (i + 1))
    fuel = omega arith

    pub turn_refused : {n : ℕ} → bad n ≡ one i → bad n ≡ left_from one 0 128
    unfolding left_from prepend onward
    turn_refused e = sym (sym k.rest ∙ rw (fuel, ← e))

    pub turn : (r : code.Option ℕ) → good (slot_of r) ≡ one i → length (set rs i r) ≡ 128 → Turning one (set rs i r) (i + 1)
    unfolding left_from onward
    turn r e l = record {
      inside = omega arith;
      full = l;
      rest =
          ap₂ (λ (xs : List Slot) (n : ℕ). prepend xs (left_from one n (128 - (i + 1))))
          (ap₂ (λ (n : ℕ) (xs : List Slot). take n xs) (add-one i) (slots_set rs i r) ∙ take-suc-set (slots rs) i (slot_of r) (omega (arith, long))) (add-one i)
          ∙ prepend_more (take i (slots rs)) (slot_of r) (left_from one (suc i) (128 - (i + 1)))
          ∙ ap (λ (x : Result Slot). prepend (take i (slots rs)) (onward x λ s. onward (left_from one (suc i) (128 - (i + 1))) λ ss. good (s ∷ ss))) e
          ∙ ap (λ (n : ℕ). prepend (take i (slots rs)) (left_from one i n)) (sym fuel)
          ∙ k.rest;
    }

  pub turn_ended : 128 ≤ i → good (slots rs) ≡ left_from one 0 128
  unfolding left_from prepend onward
  turn_ended h =
      let d : 128 - i ≡ 0 = omega arith in
      ap good (sym (append-nil (take i (slots rs)) ∙ take_all i (slots rs) (omega (arith, long))))
      ∙ ap (λ (n : ℕ). prepend (take i (slots rs)) (left_from one i n)) (sym d) ∙ k.rest
