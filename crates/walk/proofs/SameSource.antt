-- Walks by two sources are the same where the sources agree on every function that one of the walks visits, at every offset below its length.
use mathlib.Core.Path.{◌≡◌, refl, sym, ap, ◌∙◌}
use mathlib.Core.Bool.{Bool, true, false, ◌&&◌}
use Prim.Native.Nat.{ℕ, zero, suc, ◌+◌, ◌-◌, ◌<◌}
use native.Mathlib.Omega.{arith}
use mathlib.Core.Option.{Option, none, some}
use mathlib.Core.List.{List, [], ◌∷◌}
use Rattle.std.specs.Prelude.{All}
use lib.ListN.{get_elem?}
use lib.Dec.{T, leb, ltb, eqb, ltb→lt}
use mir.Facts.{and_yes}
use Rattle.format.specs.Prelude.{pick, after, Result, good, bad, onward, or_else}
use Rattle.format.specs.Machine.{machine_of, machine_ok}
use Rattle.walk.specs.Recorded.{Recorded, read_recorded}
use Rattle.walk.specs.Walk.{Source, Ruled, Placed, Fault, Chain, most_frames, holds, Held, held_from, Caller, looked_up, caller_of, held_by_none, return_undefined, behind, or_ended, held_at, frames_f, placed_of, fitting, walk_by}
use Rattle.walk.specs.Visited.{from_some, from_caller, visited_f, fault_of, visited}

-- ---- the function that holds an address is one of the list, and the offset is below its length

pub record InList (fs : List Placed) (j : ℕ) (h : Held) : Type 0 where
  pub index : ℕ
  pub function : Placed
  pub there : get_elem? fs index ≡ some function
  pub is : h.position ≡ j + index
  pub below : h.offset < function.size

held_or : (address j : ℕ) (f : Placed) (fs : List Placed) (test : Bool) → (T test → address - f.start < f.size) → (h : Held)
    → pick test (some (record { position = j; offset = address - f.start })) (held_from address (suc j) fs) ≡ some h
    → ((h : Held) → held_from address (suc j) fs ≡ some h → InList fs (suc j) h) → InList (f ∷ fs) j h
unfolding pick
held_or address j f fs true t h e more =
    let here : record { position = j; offset = address - f.start } ≡ h = cc in
    rw (← here) (record { index = 0; function = f; there = refl; is = omega arith; below = t tt })
held_or address j f fs false t h e more =
    let r = more h e in
    record { index = suc r.index; function = r.function; there = r.there; is = omega (arith, r.is); below = r.below }

pub held_in : (address j : ℕ) (fs : List Placed) (h : Held) → held_from address j fs ≡ some h → InList fs j h
unfolding held_from holds
held_in address j [] h e = let z : ◌≡◌ {A = ℕ} 0 1 = cc in absurd (omega arith)
held_in address j (f ∷ fs) h e =
    held_or address j f fs (holds address f) (λ t. ltb→lt (address - f.start) f.size (and_yes (leb f.start address) (ltb (address - f.start) f.size) t).1) h e
    λ h d. held_in address (suc j) fs h d

-- ---- the same frames

-- two sources that answer alike of function k, at every offset below its length
abbrev pub Agree : List Placed → Source → Source → ℕ → Type 0
Agree fs source other k = (p : ℕ) (f : Placed) → get_elem? fs k ≡ some f → p < f.size → source k p ≡ other k p

all_ended : {A : Type 0} (P : ℕ → Type 0) (n : ℕ) (o : Option A) (l : A → List ℕ) (f g : A → Result Chain) → All P (from_some o l)
    → ((a : A) → o ≡ some a → All P (l a) → f a ≡ g a) → or_ended n o f ≡ or_ended n o g
unfolding or_ended from_some
all_ended P n none l f g all same = refl
all_ended P n (some a) l f g all same = same a refl all

all_called : (P : ℕ → Type 0) (x : Result (Option Caller)) (l : Caller → List ℕ) (f g : Caller → Result Chain) → All P (from_caller x l)
    → ((c : Caller) → All P (l c) → f c ≡ g c)
    → onward x (λ o. or_ended return_undefined o f) ≡ onward x (λ o. or_ended return_undefined o g)
unfolding onward from_caller
all_called P (good o) l f g all same = all_ended P return_undefined o l f g all (λ c d. same c)
all_called P (bad n) l f g all same = refl

all_ruled : (P : ℕ → Type 0) (x : Result Ruled) (step : Ruled → Result (Option Caller)) (l : Caller → List ℕ) (f g : Caller → Result Chain)
    → All P (from_caller (onward x step) l) → ((c : Caller) → All P (l c) → f c ≡ g c)
    → onward x (λ r. onward (step r) λ o. or_ended return_undefined o f) ≡ onward x (λ r. onward (step r) λ o. or_ended return_undefined o g)
unfolding onward
all_ruled P (good r) step l f g all same = all_called P (step r) l f g all same
all_ruled P (bad n) step l f g all same = refl

-- the function found, where an address is looked up
found_in : (lookup : Option ℕ) (fs : List Placed) (h : Held) → after lookup (λ a. held_from a 0 fs) ≡ some h → InList fs 0 h
unfolding after
found_in none fs h e = let z : ◌≡◌ {A = ℕ} 0 1 = cc in absurd (omega arith)
found_in (some a) fs h e = held_in a 0 fs h e

first_of_all : (P : ℕ → Type 0) (k : ℕ) (ks : List ℕ) → All P (k ∷ ks) → P k
first_of_all P k ks all = all 0 k (omega arith)

rest_of_all : (P : ℕ → Type 0) (k : ℕ) (ks : List ℕ) → All P (k ∷ ks) → All P ks
rest_of_all P k ks all = λ i d h. all (suc i) d (omega arith)

pub same_frames : (source other : Source) (e : Fault) (n : ℕ) (c : Caller) → All (Agree e.functions source other) (visited_f other e n c)
    → frames_f source e n c ≡ frames_f other e n c
unfolding frames_f held_at visited_f
same_frames source other e zero c all = refl
same_frames source other e (suc n) c all =
    all_ended (Agree e.functions source other) held_by_none (held_at e c) _ _ _ all λ h d more.
    let i = found_in (looked_up c.exact c.pc) e.functions h d in
    let k : h.position ≡ i.index = omega (arith, i.is) in
    let agree : Agree e.functions source other h.position = first_of_all (Agree e.functions source other) h.position _ more in
    ap (behind (record { position = h.position; pc = c.pc }))
    (rw (agree h.offset i.function (ap (get_elem? e.functions) k ∙ i.there) i.below)
    (all_ruled (Agree e.functions source other) (other h.position h.offset) (λ r. caller_of e.machine e.memory r c.slots) (visited_f other e n) _ _
    (rest_of_all (Agree e.functions source other) h.position _ more) λ a m. same_frames source other e n a m))

-- ---- the same walk

module _ (source other : Source) (machine file : List ℕ) (pc stack : ℕ) (functions : List ℕ) where
  abbrev P : ℕ → Type 0
  P = Agree (placed_of functions) source other

  abbrev first_frame : Recorded → Caller
  first_frame f = record { slots = f.slots; pc = pc; exact = true }

  -- from a file that was read on
  abbrev walk_from : Source → (room : ℕ) → Option Recorded → Result Chain
  walk_from by room o = onward (or_else o 73) λ f. onward (frames_f by (fault_of machine stack functions f) most_frames (first_frame f)) (fitting room)

  same_read : (room : ℕ) (o : Option Recorded)
      → All P (from_some o λ f. visited_f other (fault_of machine stack functions f) most_frames (first_frame f))
      → walk_from source room o ≡ walk_from other room o
  unfolding onward or_else from_some fault_of
  same_read room none all = refl
  same_read room (some f) all =
      ap (λ (c : Result Chain). onward c (fitting room)) (same_frames source other (fault_of machine stack functions f) most_frames (first_frame f) all)

  -- the tests of the machine and of the word stand behind that of the file
  asked_later : (by : Source) (room : ℕ) (a b : Bool) (o : Option Recorded)
      → (onward (or_else o 73) λ f. pick a (pick b (onward (frames_f by (fault_of machine stack functions f) most_frames (first_frame f)) (fitting room)) (bad 12)) (bad 11))
      ≡ pick (a && b) (walk_from by room o) (onward (or_else o 73) λ f. pick a (bad 12) (bad 11))
  unfolding onward or_else pick
  asked_later by room true true o = refl
  asked_later by room true false o = refl
  asked_later by room false b o = refl

  by_tests : (room : ℕ) (t : Bool) (x : Result Chain)
      → All P (pick t (from_some (read_recorded file) λ f. visited_f other (fault_of machine stack functions f) most_frames (first_frame f)) [])
      → pick t (walk_from source room (read_recorded file)) x ≡ pick t (walk_from other room (read_recorded file)) x
  unfolding pick
  by_tests room true x all = same_read room (read_recorded file) all
  by_tests room false x all = refl

  pub same_walk : (room : ℕ) → All P (visited other machine file pc stack functions)
      → walk_by source machine file pc stack functions room ≡ walk_by other machine file pc stack functions room
  unfolding walk_by visited fault_of
  same_walk room all =
      asked_later source room (machine_ok machine) (eqb (machine_of machine).word 8) (read_recorded file)
      ∙ by_tests room (machine_ok machine && eqb (machine_of machine).word 8) _ all
      ∙ sym (asked_later other room (machine_ok machine) (eqb (machine_of machine).word 8) (read_recorded file))
