-- The entry: the record file, the machine, and the list that is lent.
use mathlib.Core.Path.{◌≡◌, refl, sym, ◌∙◌}
use Prim.Native.Nat.{ℕ, ◌/◌, ◌<◌, ◌≤◌}
use mathlib.Core.Bool.{Bool, true, false, ◌&&◌}
use mathlib.Core.Option.{none, some}
use mathlib.Core.List.{List, [], ◌∷◌}
use lib.Dec.{eqb}
use lib.ListN.{length}
use native.Mathlib.Omega.{arith}
use Rattle.std.proofs.lemmas.List.{length-take-le}
use Rattle.format.specs.Prelude.{pick, Result, good, bad, onward, or_else}
use Rattle.std.specs.Prelude.{Ok, Err}
use Rattle.std.specs.Prelude as code
use Rattle.format.specs.Put.{put}
use Rattle.format.specs.declared.Machine.{Machine}
use Rattle.format.specs.Machine.{machine_ok, machine_of}
use Rattle.format.proofs.Choice.{if-le, if-gt, if-eq, if-ne}
use Rattle.walk.specs.Recorded.{Recorded, read_recorded}
use Rattle.walk.specs.Walk.{Source, Memory, frame_numbers, frames_f, fitting, walk_by}
use Rattle.walk.specs.Walk as walk
use Rattle.walk.specs.declared.Frame.{Frame}
use Rattle.walk.specs.Found.{found_f, found}
use Rattle.walk.specs.Visited.{from_some}
use Rattle.walk.specs.Visited as visited
use Rattle.format.specs.Numbers.{number_of}
use Rattle.format.specs.declared.question.Question.{Question}
use Rattle.walked.specs.Endings.{ending_number}
use Rattle.walked.specs.declared.chain.Ending.{Ending}
use Rattle.walked.specs.declared.chain.Walked.{Walked}
use Rattle.walked.specs.Standing.{frames_of, walked_of, fault_of}
use Rattle.walked.specs.Entry.{chain_numbers, chain_stored, found_numbers, that_fit}

-- ---- the machine

module _ (ms : List ℕ) (frames : Result walk.Chain) where
  abbrev pub asked : Result walk.Chain
  asked = pick (machine_ok ms) (pick (eqb (machine_of ms).word 8) frames (bad 12)) (bad 11)

  pub no_machine : machine_ok ms ≡ false → bad 11 ≡ asked
  unfolding pick
  no_machine e = rw e

  module _ (ok : machine_ok ms ≡ true) (m : Machine) (is : m ≡ machine_of ms) where
    pub other_word : (m.word ≡ 8 → ⊥) → bad 12 ≡ asked
    unfolding pick
    other_word n = rw (ok, ← is) (sym (if-ne m.word 8 frames (bad 12) n))

    pub right_word : m.word ≡ 8 → frames ≡ asked
    unfolding pick
    right_word e = rw (ok, ← is) (sym (if-eq m.word 8 frames (bad 12) e))

-- ---- the frames that are found

module _ (ms : List ℕ) (frames : List Frame) where
  abbrev pub found_asked : List Frame
  found_asked = pick (machine_ok ms && eqb (machine_of ms).word 8) frames []

  pub none_asked : machine_ok ms ≡ false → [] ≡ found_asked
  unfolding pick
  none_asked e = rw e

  module _ (ok : machine_ok ms ≡ true) (m : Machine) (is : m ≡ machine_of ms) where
    pub none_of_word : (m.word ≡ 8 → ⊥) → [] ≡ found_asked
    unfolding pick
    none_of_word n = rw (ok, ← is) (sym (if-ne m.word 8 frames [] n))

    pub found_of_word : m.word ≡ 8 → frames ≡ found_asked
    unfolding pick
    found_of_word e = rw (ok, ← is) (sym (if-eq m.word 8 frames [] e))

pub found_of_lem : (src : Source) (memory : Memory) (functions : List ℕ) (start : walk.Caller) {m n : Machine} → m ≡ n
    → found_f src (fault_of m memory functions) 64 start ≡ found_f src (fault_of n memory functions) 64 start
found_of_lem src memory functions start e = rw e

-- the frames, by what the code made of the machine
pub frames_of_lem : (src : Source) (memory : Memory) (functions : List ℕ) (start : walk.Caller) {m n : Machine} → m ≡ n
    → frames_f src (fault_of m memory functions) 64 start ≡ frames_f src (fault_of n memory functions) 64 start
frames_of_lem src memory functions start e = rw e

-- ---- the whole

module _ (src : Source) (ms file : List ℕ) (pc stack : ℕ) (functions : List ℕ) (room : ℕ) where
  pub no_file : none ≡ read_recorded file → walk_by src ms file pc stack functions room ≡ bad 73
  unfolding walk_by onward or_else
  no_file e = rw (← e)

  moved : (a b : Bool) (r : Result walk.Chain)
      → pick a (pick b (onward r (fitting room)) (bad 12)) (bad 11) ≡ onward (pick a (pick b r (bad 12)) (bad 11)) (fitting room)
  unfolding pick onward
  moved true true r = refl
  moved true false r = refl
  moved false b r = refl

  pub with_file : {r : Recorded} → some r ≡ read_recorded file
      → walk_by src ms file pc stack functions room
      ≡ onward (asked ms (frames_f src (fault_of (machine_of ms) (record { address = stack; bytes = r.stack }) functions) 64 (record { slots = r.slots; pc = pc; exact = true }))) (fitting room)
  unfolding walk_by onward or_else
  with_file e = rw (← e) (moved (machine_ok ms) (eqb (machine_of ms).word 8) _)

same_picked : (b : Bool) → ◌≡◌ {A = List Frame} (pick b [] []) []
unfolding pick
same_picked true = refl
same_picked false = refl

module _ (src : Source) (ms file : List ℕ) (pc stack : ℕ) (functions : List ℕ) where
  pub none_in_file : none ≡ read_recorded file → [] ≡ found src ms file pc stack functions
  unfolding found from_some pick
  none_in_file e = rw (← e) (sym (same_picked (machine_ok ms && eqb (machine_of ms).word 8)))

  pub found_in_file : {r : Recorded} → some r ≡ read_recorded file
      → found_asked ms (found_f src (fault_of (machine_of ms) (record { address = stack; bytes = r.stack }) functions) 64 (record { slots = r.slots; pc = pc; exact = true }))
      ≡ found src ms file pc stack functions
  unfolding found from_some visited.fault_of
  found_in_file e = rw (← e) refl

-- ---- the list that is lent

abbrev pub Answers : Result walk.Chain → List ℕ → (old new : List ℕ) → Type 0
Answers r ns old new = (ns ≡ chain_numbers r) × (new ≡ chain_stored r old)

pub refuses : {r : Result walk.Chain} {n : ℕ} {ns old : List ℕ} → r ≡ bad n → ns ≡ n ∷ 0 ∷ 0 ∷ [] → Answers r ns old old
unfolding chain_numbers chain_stored
refuses e h = (h ∙ rw e, rw e)

-- as many frames as are counted
pub counted : (w : Walked) → length w.frames ≡ 64 → length (frames_of w) ≡ w.count
counted w h = length-take-le w.count w.frames (omega (arith, h, w.few))

-- a walk that is refused in front of every frame
pub refused_walk : (w : Walked) (room : ℕ) {q : Question} → w.ending ≡ Err q → bad (number_of q) ≡ onward (walked_of w) (fitting room)
unfolding onward
refused_walk w room e = rw e refl

-- what the export that lists what was found answers, and leaves in the lent list
abbrev pub Finds : Walked → (old ns new : List ℕ) → Type 0
Finds w old ns new =
    (ns ≡ found_numbers (onward (walked_of w) (fitting (length old))) (length (that_fit (length old) (frames_of w))))
    × (new ≡ put old 0 (frame_numbers (that_fit (length old) (frames_of w))))

module _ (w : Walked) (old : List ℕ) where
  all_fit : length (frames_of w) ≤ length old / 2 → that_fit (length old) (frames_of w) ≡ frames_of w
  unfolding that_fit
  all_fit h = if-le (length (frames_of w)) (length old / 2) (frames_of w) [] h

  pub refused : {q : Question} {ns : List ℕ} → w.ending ≡ Err q → ns ≡ number_of q ∷ 0 ∷ 0 ∷ [] → Answers (onward (walked_of w) (fitting (length old))) ns old old
  unfolding onward
  refused e h = refuses (rw e) h

  -- the frames do not fit, or do
  module _ (h : length old / 2 < length (frames_of w)) where
    none_fit : that_fit (length old) (frames_of w) ≡ []
    unfolding that_fit
    none_fit = if-gt (length (frames_of w)) (length old / 2) (frames_of w) [] h

    pub none_found : {q : Question} {ns : List ℕ} → w.ending ≡ Err q → ns ≡ number_of q ∷ 0 ∷ 0 ∷ [] → Finds w old ns old
    unfolding onward found_numbers put frame_numbers
    none_found e i = (i ∙ rw (e, none_fit), rw none_fit)

  module _ {e : Ending} (is : w.ending ≡ Ok e) where
    as_chain : onward (walked_of w) (fitting (length old)) ≡ fitting (length old) (record { frames = frames_of w; ending = ending_number e })
    unfolding onward
    as_chain = rw is

    module _ (h : length old / 2 < length (frames_of w)) where
      too_long : onward (walked_of w) (fitting (length old)) ≡ bad 54
      unfolding fitting
      too_long = as_chain ∙ if-gt (length (frames_of w)) (length old / 2) _ (bad 54) h

      pub no_room : {ns : List ℕ} → ns ≡ 54 ∷ 0 ∷ 0 ∷ [] → Answers (onward (walked_of w) (fitting (length old))) ns old old
      no_room k = refuses too_long k

      pub found_no_room : {ns : List ℕ} → ns ≡ 54 ∷ 0 ∷ 0 ∷ [] → Finds w old ns old
      unfolding found_numbers put frame_numbers
      found_no_room k = (k ∙ rw (too_long, none_fit h), rw (none_fit h))

    module _ (h : length (frames_of w) ≤ length old / 2) where
      fits : onward (walked_of w) (fitting (length old)) ≡ good (record { frames = frames_of w; ending = ending_number e })
      unfolding fitting
      fits = as_chain ∙ if-le (length (frames_of w)) (length old / 2) (good _) (bad 54) h

      pub stored : {new : List ℕ} → new ≡ put old 0 (frame_numbers (frames_of w))
          → Answers (onward (walked_of w) (fitting (length old))) (0 ∷ length (frames_of w) ∷ ending_number e ∷ []) old new
      unfolding chain_numbers chain_stored
      stored q = (rw fits, rw fits q)

      pub found_ended : {new : List ℕ} → new ≡ put old 0 (frame_numbers (frames_of w))
          → Finds w old (0 ∷ length (frames_of w) ∷ ending_number e ∷ []) new
      unfolding found_numbers
      found_ended q = (rw (fits, all_fit h), rw (all_fit h) q)

  module _ {q : Question} (is : w.ending ≡ Err q) (h : length (frames_of w) ≤ length old / 2) where
    pub found_refused : {new : List ℕ} → new ≡ put old 0 (frame_numbers (frames_of w))
        → Finds w old (number_of q ∷ length (frames_of w) ∷ 0 ∷ []) new
    unfolding onward found_numbers
    found_refused k = (rw (is, all_fit h), rw (all_fit h) k)

-- the answer of the walk that was made, as the walk of the definition
pub answers_as : {x y r : Result walk.Chain} (f : walk.Chain → Result walk.Chain) (old : List ℕ) {ns new : List ℕ} → x ≡ y → r ≡ onward y f → Answers (onward x f) ns old new → Answers r ns old new
answers_as f old e d h = rw (d, ← e) h

pub finds_as : {r : Result walk.Chain} {fs : List Frame} (w : Walked) (old : List ℕ) {ns new : List ℕ} → r ≡ onward (walked_of w) (fitting (length old)) → frames_of w ≡ fs
    → Finds w old ns new → (ns ≡ found_numbers r (length (that_fit (length old) fs))) × (new ≡ put old 0 (frame_numbers (that_fit (length old) fs)))
finds_as w old e f h = rw (e, ← f) h
