-- The numbers that a walk is refused by, where its source of rules never refuses: none is a reader's.
use mathlib.Core.Path.{◌≡◌}
use Prim.Native.Nat.{ℕ, zero, suc, ◌/◌}
use mathlib.Core.Bool.{Bool, true, false}
use mathlib.Core.Option.{Option, none, some}
use mathlib.Core.List.{List}
use lib.Dec.{T, leb, eqb}
use lib.ListN.{length, get_or}
use Rattle.format.specs.Prelude.{pick, after, Result, good, bad, onward, or_else}
use Rattle.format.specs.declared.Machine.{Machine}
use Rattle.format.specs.declared.CfaRule.{CfaRule}
use Rattle.format.specs.declared.CfaRule.TheVariants.{Unset, Register}
use Rattle.format.specs.declared.Rule.{Rule}
use Rattle.format.specs.declared.Rule.TheVariants as rule
use Rattle.format.specs.Machine.{machine_ok, machine_of}
use Rattle.walk.specs.Recorded.{Slot, read_recorded, followed}
use Rattle.walk.specs.Walk.{Memory, Ruled, Source, Fault, Chain, Caller, most_frames, sum_of, load, saved, left_by, left_from, left, frame_address, undefined, returned_to, caller_of, ended, behind, or_ended, held_at, held_by_none, return_undefined, frames_f, fitting, walk_by}

-- an answer, or one of these numbers
abbrev pub Only : {A : Type 0} → (own : ℕ → Bool) → Result A → Type 0
Only own (good a) = Unit
Only own (bad n) = T (own n)

module _ (own : ℕ → Bool) where
  then : {A B : Type 0} (r : Result A) (f : A → Result B) → Only own r → ((a : A) → Only own (f a)) → Only own (onward r f)
  unfolding onward
  then (good a) f h k = k a
  then (bad n) f h k = h

  or_else_lem : {A : Type 0} (o : Option A) (n : ℕ) → T (own n) → Only own (or_else o n)
  unfolding or_else
  or_else_lem none n h = h
  or_else_lem (some a) n h = tt

  picked : {A : Type 0} (b : Bool) (x y : Result A) → Only own x → Only own y → Only own (pick b x y)
  unfolding pick
  picked true x y h k = h
  picked false x y h k = k

  or_ended_lem : {A : Type 0} (n : ℕ) (o : Option A) (more : A → Result Chain) → ((a : A) → Only own (more a)) → Only own (or_ended n o more)
  unfolding or_ended ended
  or_ended_lem n none more h = tt
  or_ended_lem n (some a) more h = h a

  module _ (h₇₄ : T (own 74)) (h₇₅ : T (own 75)) where
    one_left : (m : Memory) (cfa : ℕ) (before : List Slot) (reg : ℕ) (r : Rule) → Only own (left_by m cfa before reg r)
    unfolding left_by saved
    one_left m cfa before reg rule.Unstated = tt
    one_left m cfa before reg rule.SameValue = tt
    one_left m cfa before reg rule.Undefined = tt
    one_left m cfa before reg (rule.InRegister other) = tt
    one_left m cfa before reg (rule.Saved z) = then (or_else (after (sum_of cfa z) (load m)) 74) _ (or_else_lem (after (sum_of cfa z) (load m)) 74 h₇₄) λ v. tt

    some_left : (one : ℕ → Result Slot) → ((reg : ℕ) → Only own (one reg)) → (reg n : ℕ) → Only own (left_from one reg n)
    unfolding left_from
    some_left one h reg zero = tt
    some_left one h reg (suc n) = then (one reg) _ (h reg) λ s. then (left_from one (suc reg) n) _ (some_left one h (suc reg) n) λ ss. tt

    address : (r : CfaRule) (before : List Slot) → Only own (frame_address r before)
    unfolding frame_address
    address Unset before = h₇₅
    address (Register reg z) before = then (or_else (get_or before reg none) 75) _ (or_else_lem (get_or before reg none) 75 h₇₅) λ a. or_else_lem (sum_of a z) 74 h₇₄

    caller : (k : Machine) (m : Memory) (r : Ruled) (before : List Slot) → Only own (caller_of k m r before)
    unfolding caller_of left returned_to
    caller k m r before =
        picked (undefined (r.rules.rules k.ret)) _ _ tt
        (then (frame_address r.rules.cfa before) _ (address r.rules.cfa before) λ cfa.
        then (left m k.stack cfa r.rules before) _
        (then (left_from (λ reg. left_by m cfa before reg (r.rules.rules reg)) 0 followed) _ (some_left _ (λ reg. one_left m cfa before reg (r.rules.rules reg)) 0 followed) λ ss. tt)
        λ slots. then (or_else (get_or slots k.ret none) 75) _ (or_else_lem (get_or slots k.ret none) 75 h₇₅) λ a. tt)

    module _ (src : Source) (answers : (k p : ℕ) → Only own (src k p)) where
      frames : (e : Fault) (n : ℕ) (c : Caller) → Only own (frames_f src e n c)
      unfolding frames_f behind ended
      frames e zero c = or_ended_lem held_by_none (held_at e c) _ λ h. tt
      frames e (suc n) c =
          or_ended_lem held_by_none (held_at e c) _ λ h.
          then _ _
          (then (src h.position h.offset) _ (answers h.position h.offset) λ r.
          then (caller_of e.machine e.memory r c.slots) _ (caller e.machine e.memory r c.slots) λ o.
          or_ended_lem return_undefined o _ λ d. frames e n d)
          λ x. tt

      pub own_numbers : T (own 73) → T (own 12) → T (own 54) → (machine file : List ℕ) (pc stack : ℕ) (functions : List ℕ) (room : ℕ) → machine_ok machine ≡ true
          → Only own (walk_by src machine file pc stack functions room)
      unfolding walk_by fitting pick
      own_numbers h₇₃ h₁₂ h₅₄ machine file pc stack functions room ok =
          then (or_else (read_recorded file) 73) _ (or_else_lem (read_recorded file) 73 h₇₃) λ f.
          rw ok
          (picked (eqb (machine_of machine).word 8) _ _
          (then _ _ (frames _ most_frames (record { slots = f.slots; pc = pc; exact = true })) λ x. picked (leb (length x.frames) (room / 2)) _ _ tt h₅₄) h₁₂)
