-- The frames, one in a turn: those that are listed, and what is left to do in the definition.
use mathlib.Core.Path.{◌≡◌, refl, sym, ap, ◌∙◌}
use mathlib.Core.Option.{Option, none, some}
use mathlib.Core.List.{List, [], ◌∷◌, ◌++◌, append_assoc, append-nil}
use Prim.Native.Nat.{ℕ, suc, ◌+◌, ◌-◌, ◌<◌, ◌≤◌}
use native.Mathlib.Omega.{arith}
use lib.ListN.{length, length-append}
use Rattle.format.specs.Prelude.{Result, good, bad, onward}
use Rattle.format.proofs.Onward.{onward_assoc}
use Rattle.walk.specs.declared.Frame.{Frame}
use Rattle.walk.specs.Walk.{Source, Fault, Chain, Caller, Held, caller_of, ended, behind, or_ended, held_at, frames_f, return_undefined, held_by_none, too_many}

unfoldable pub onto : List Frame → Result Chain → Result Chain
onto fs r = onward r λ c. good (record { frames = fs ++ c.frames; ending = c.ending })

onto_none : (r : Result Chain) → onto [] r ≡ r
unfolding onto onward
onto_none (good c) = refl
onto_none (bad n) = refl

onto_behind : (fs : List Frame) (f : Frame) (r : Result Chain) → onto fs (behind f r) ≡ onto (fs ++ (f ∷ [])) r
unfolding onto behind onward
onto_behind fs f (good c) = ap (λ (l : List Frame). good (record { frames = l; ending = c.ending })) (sym (append_assoc fs (f ∷ []) c.frames))
onto_behind fs f (bad n) = refl

onto_ended : (fs : List Frame) (n : ℕ) → onto fs (ended n) ≡ good (record { frames = fs; ending = n })
unfolding onto ended onward
onto_ended fs n = ap (λ (l : List Frame). good (record { frames = l; ending = n })) (append-nil fs)

-- ---- the loop

pub record Going (src : Source) (e : Fault) (c₀ : Caller) (fs : List Frame) (c : Caller) : Type 0 where
  pub few : length fs ≤ 64
  pub rest : onto fs (frames_f src e (64 - length fs) c) ≡ frames_f src e 64 c₀

pub go_start : (src : Source) (e : Fault) (c : Caller) → Going src e c [] c
go_start src e c = record { few = omega arith; rest = onto_none (frames_f src e 64 c) }

-- the caller of a frame, and what follows
abbrev pub step_by : Source → Fault → Held → Caller → Result (Option Caller)
step_by src e h c = onward (src h.position h.offset) λ u. caller_of e.machine e.memory u c.slots

module _ {src : Source} {e : Fault} {c₀ : Caller} {fs : List Frame} {c : Caller} (g : Going src e c₀ fs c) where
  module _ (below : length fs < 64) where
    fuel : 64 - length fs ≡ suc (64 - (length fs + 1))
    fuel = omega arith

    pub go_unheld : held_at e c ≡ none → good (record { frames = fs; ending = held_by_none }) ≡ frames_f src e 64 c₀
    unfolding frames_f or_ended
    go_unheld n = sym (onto_ended fs held_by_none) ∙ sym (ap (onto fs) (rw (fuel, n))) ∙ g.rest

    module _ (h : Held) (held : held_at e c ≡ some h) where
      abbrev this : Frame
      this = record { position = h.position; pc = c.pc }

      more : Option Caller → Result Chain
      more o = or_ended return_undefined o (frames_f src e (64 - (length fs + 1)))

      frame : frames_f src e (64 - length fs) c ≡ behind this (onward (step_by src e h c) more)
      unfolding frames_f or_ended more
      frame = rw (fuel, held) (ap (behind this) (onward_assoc (src h.position h.offset) (λ u. caller_of e.machine e.memory u c.slots) more))

      gone : onto (fs ++ (this ∷ [])) (onward (step_by src e h c) more) ≡ frames_f src e 64 c₀
      gone = sym (onto_behind fs this (onward (step_by src e h c) more)) ∙ ap (onto fs) (sym frame) ∙ g.rest

      gone_by : {r : Result (Option Caller)} → step_by src e h c ≡ r → onto (fs ++ (this ∷ [])) (onward r more) ≡ frames_f src e 64 c₀
      gone_by s = sym (ap (λ (r : Result (Option Caller)). onto (fs ++ (this ∷ [])) (onward r more)) s) ∙ gone

      pub go_refused : {n : ℕ} → step_by src e h c ≡ bad n → bad n ≡ frames_f src e 64 c₀
      unfolding onto onward
      go_refused s = gone_by s

      pub go_undefined : step_by src e h c ≡ good none → good (record { frames = fs ++ (this ∷ []); ending = return_undefined }) ≡ frames_f src e 64 c₀
      unfolding onward or_ended more
      go_undefined s = sym (onto_ended (fs ++ (this ∷ [])) return_undefined) ∙ gone_by s

      pub go_on : {d : Caller} → step_by src e h c ≡ good (some d) → Going src e c₀ (fs ++ (this ∷ [])) d
      unfolding onward or_ended more
      go_on s =
          let l : length (fs ++ (this ∷ [])) ≡ length fs + 1 = length-append fs (this ∷ []) in
          record { few = omega (arith, l); rest = rw l (gone_by s) }

  module _ (all : 64 ≤ length fs) where
    none_left : 64 - length fs ≡ 0
    none_left = omega arith

    pub full_unheld : held_at e c ≡ none → good (record { frames = fs; ending = held_by_none }) ≡ frames_f src e 64 c₀
    unfolding frames_f or_ended
    full_unheld n = sym (onto_ended fs held_by_none) ∙ sym (ap (onto fs) (rw (none_left, n))) ∙ g.rest

    pub full_held : (h : Held) → held_at e c ≡ some h → good (record { frames = fs; ending = too_many }) ≡ frames_f src e 64 c₀
    unfolding frames_f or_ended
    full_held h s = sym (onto_ended fs too_many) ∙ sym (ap (onto fs) (rw (none_left, s))) ∙ g.rest
