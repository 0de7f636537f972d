-- The frames that a walk finds, one in a turn: those that are listed, and what is left to find in the definition.
use mathlib.Core.Path.{◌≡◌, refl, sym, ap, ◌∙◌}
use mathlib.Core.Option.{Option, none, some}
use mathlib.Core.List.{List, [], ◌∷◌, ◌++◌, append_assoc, append-nil}
use Prim.Native.Nat.{ℕ, suc, ◌+◌, ◌-◌, ◌<◌, ◌≤◌}
use native.Mathlib.Omega.{arith}
use lib.ListN.{length, length-append}
use Rattle.format.specs.Prelude.{Result, good, bad, onward}
use Rattle.walk.specs.declared.Frame.{Frame}
use Rattle.walk.specs.Walk.{Source, Fault, Caller, Held, held_at}
use Rattle.walk.specs.Visited.{from_some, from_caller}
use Rattle.walk.specs.Found.{found_f}
use Rattle.walk.proofs.Chains.{step_by}

pub record Finding (src : Source) (e : Fault) (c₀ : Caller) (fs : List Frame) (c : Caller) : Type 0 where
  pub few : length fs ≤ 64
  pub rest : fs ++ found_f src e (64 - length fs) c ≡ found_f src e 64 c₀

pub find_start : (src : Source) (e : Fault) (c : Caller) → Finding src e c [] c
find_start src e c = record { few = omega arith; rest = refl }

module _ {src : Source} {e : Fault} {c₀ : Caller} {fs : List Frame} {c : Caller} (g : Finding src e c₀ fs c) where
  pub find_full : 64 ≤ length fs → fs ≡ found_f src e 64 c₀
  unfolding found_f
  find_full h =
      let z : 64 - length fs ≡ 0 = omega arith in
      sym (append-nil fs) ∙ sym (ap (λ (n : ℕ). fs ++ found_f src e n c) z) ∙ g.rest

  module _ (below : length fs < 64) where
    fuel : 64 - length fs ≡ suc (64 - (length fs + 1))
    fuel = omega arith

    pub find_unheld : held_at e c ≡ none → fs ≡ found_f src e 64 c₀
    unfolding found_f from_some
    find_unheld n = sym (append-nil fs) ∙ sym (ap (λ (l : List Frame). fs ++ l) (rw (fuel, n) refl)) ∙ g.rest

    module _ (h : Held) (held : held_at e c ≡ some h) where
      abbrev this : Frame
      this = record { position = h.position; pc = c.pc }

      listed : fs ++ (this ∷ from_caller (step_by src e h c) (found_f src e (64 - (length fs + 1)))) ≡ found_f src e 64 c₀
      unfolding found_f from_some
      listed = sym (ap (λ (l : List Frame). fs ++ l) (rw (fuel, held) refl)) ∙ g.rest

      listed_by : {r : Result (Option Caller)} → step_by src e h c ≡ r
          → (fs ++ (this ∷ [])) ++ from_caller r (found_f src e (64 - (length fs + 1))) ≡ found_f src e 64 c₀
      listed_by s = append_assoc fs (this ∷ []) _ ∙ rw (← s) listed

      pub find_refused : {n : ℕ} → step_by src e h c ≡ bad n → fs ++ (this ∷ []) ≡ found_f src e 64 c₀
      unfolding from_caller
      find_refused s = sym (append-nil (fs ++ (this ∷ []))) ∙ listed_by s

      pub find_undefined : step_by src e h c ≡ good none → fs ++ (this ∷ []) ≡ found_f src e 64 c₀
      unfolding from_caller from_some
      find_undefined s = sym (append-nil (fs ++ (this ∷ []))) ∙ listed_by s

      pub find_on : {d : Caller} → step_by src e h c ≡ good (some d) → Finding src e c₀ (fs ++ (this ∷ [])) d
      unfolding from_caller from_some
      find_on s =
          let l : length (fs ++ (this ∷ [])) ≡ length fs + 1 = length-append fs (this ∷ []) in
          record { few = omega (arith, l); rest = rw l (listed_by s) }
