-- The functions that an answered walk visits are those of the frames that it lists, in order.
use mathlib.Core.Path.{◌≡◌, refl, ap}
use mathlib.Core.Bool.{Bool, true, false, ◌&&◌}
use mathlib.Core.Option.{Option, none, some}
use mathlib.Core.List.{List, [], ◌∷◌, map}
use Prim.Native.Nat.{ℕ, zero, suc, ◌/◌, ◌≤◌}
use lib.ListN.{length}
use lib.Dec.{T, leb, eqb, leb→le}
use Rattle.format.specs.Prelude.{pick, Result, good, bad, onward, or_else}
use Rattle.format.specs.Machine.{machine_of, machine_ok}
use Rattle.walk.specs.declared.Frame.{Frame}
use Rattle.walk.specs.Recorded.{Recorded, read_recorded}
use Rattle.walk.specs.Walk.{Source, Ruled, Fault, Chain, Caller, most_frames, caller_of, held_by_none, return_undefined, too_many, ended, behind, or_ended, held_at, frames_f, fitting, walk_by}
use Rattle.walk.specs.Visited.{from_some, from_caller, visited_f, fault_of, visited}

abbrev pub positions : List Frame → List ℕ
positions fs = map (λ (f : Frame). f.position) fs

-- where there are frames, they are of these functions
abbrev Of : List ℕ → Result Chain → Type 0
Of ks (good c) = positions c.frames ≡ ks
Of ks (bad n) = Unit {0}

of_ended : {A : Type 0} (n : ℕ) (o : Option A) (f : A → Result Chain) (l : A → List ℕ) → ((a : A) → Of (l a) (f a)) → Of (from_some o l) (or_ended n o f)
unfolding or_ended from_some ended
of_ended n none f l h = refl
of_ended n (some a) f l h = h a

of_none : {A : Type 0} (n m : ℕ) (o : Option A) → Of [] (or_ended n o (λ a. ended m))
unfolding or_ended ended
of_none n m none = refl
of_none n m (some a) = refl

of_called : (x : Result (Option Caller)) (f : Caller → Result Chain) (l : Caller → List ℕ) → ((c : Caller) → Of (l c) (f c))
    → Of (from_caller x l) (onward x λ o. or_ended return_undefined o f)
unfolding onward from_caller
of_called (good o) f l h = of_ended return_undefined o f l h
of_called (bad n) f l h = tt

of_ruled : (x : Result Ruled) (step : Ruled → Result (Option Caller)) (f : Caller → Result Chain) (l : Caller → List ℕ) → ((c : Caller) → Of (l c) (f c))
    → Of (from_caller (onward x step) l) (onward x λ r. onward (step r) λ o. or_ended return_undefined o f)
unfolding onward from_caller
of_ruled (good r) step f l h = of_called (step r) f l h
of_ruled (bad n) step f l h = tt

of_behind : (f : Frame) (x : Result Chain) (ks : List ℕ) → Of ks x → Of (f.position ∷ ks) (behind f x)
unfolding behind onward
of_behind f (good c) ks h = ap (λ (is : List ℕ). f.position ∷ is) h
of_behind f (bad n) ks h = tt

of_frames : (source : Source) (e : Fault) (n : ℕ) (c : Caller) → Of (visited_f source e n c) (frames_f source e n c)
unfolding frames_f visited_f
of_frames source e zero c = of_none held_by_none too_many (held_at e c)
of_frames source e (suc n) c =
    of_ended held_by_none (held_at e c) _ _ λ h.
    of_behind (record { position = h.position; pc = c.pc }) _ _
    (of_ruled (source h.position h.offset) (λ r. caller_of e.machine e.memory r c.slots) (frames_f source e n) (visited_f source e n) λ a.
    of_frames source e n a)

-- ---- the whole

-- and they fit the list that is lent for them
abbrev pub Lists : (room : ℕ) → List ℕ → Result Chain → Type 0
Lists room ks (good c) = (positions c.frames ≡ ks) × (length c.frames ≤ room / 2)
Lists room ks (bad n) = Unit {0}

lists_fitted : (room : ℕ) (ks : List ℕ) (c : Chain) → positions c.frames ≡ ks → (b : Bool) → (T b → length c.frames ≤ room / 2)
    → Lists room ks (pick b (good c) (bad 54))
unfolding pick
lists_fitted room ks c h true t = (h, t tt)
lists_fitted room ks c h false t = tt

lists_fitting : (room : ℕ) (ks : List ℕ) (x : Result Chain) → Of ks x → Lists room ks (onward x (fitting room))
unfolding onward fitting
lists_fitting room ks (good c) h = lists_fitted room ks c h (leb (length c.frames) (room / 2)) (λ t. leb→le (length c.frames) (room / 2) t)
lists_fitting room ks (bad n) h = tt

module _ (source : Source) (machine file : List ℕ) (pc stack : ℕ) (functions : List ℕ) (room : ℕ) where
  lists_read : (a b : Bool) (o : Option Recorded)
      → Lists room
      (pick (a && b) (from_some o λ f. visited_f source (fault_of machine stack functions f) most_frames (record { slots = f.slots; pc = pc; exact = true })) [])
      (onward (or_else o 73) λ f. pick a (pick b (onward (frames_f source (fault_of machine stack functions f) most_frames (record { slots = f.slots; pc = pc; exact = true })) (fitting room)) (bad 12)) (bad 11))
  unfolding onward or_else pick from_some
  lists_read a b none = tt
  lists_read true true (some f) =
      lists_fitting room _ _ (of_frames source (fault_of machine stack functions f) most_frames (record { slots = f.slots; pc = pc; exact = true }))
  lists_read true false (some f) = tt
  lists_read false b (some f) = tt

  pub walk_lists : Lists room (visited source machine file pc stack functions) (walk_by source machine file pc stack functions room)
  unfolding walk_by visited fault_of
  walk_lists = lists_read (machine_ok machine) (eqb (machine_of machine).word 8) (read_recorded file)
