-- The functions that a walk visits, by their positions: each whose rules it asks for. They are those of the frames
-- that are listed. Where the walk is refused at a frame they are those of the frames in front of it, and its own.
use Rattle.std.specs.Prelude.{ℕ, zero, suc, Bool, true, ◌&&◌, List, [], ◌∷◌, eqb}
use Rattle.std.proofs.Math.Option.{Option, none, some}
use Rattle.format.specs.Prelude.{pick, Result, good, bad, onward}
use Rattle.format.specs.Machine.{machine_of, machine_ok}
use Rattle.walk.specs.Recorded.{Recorded, read_recorded}
use Rattle.walk.specs.Walk.{Source, Fault, Caller, most_frames, held_at, caller_of, placed_of}

-- what is visited from something on, where there is something
unfoldable pub from_some : {A B : Type 0} → Option A → (A → List B) → List B
from_some none more = []
from_some (some a) more = more a

-- what is visited behind a frame: nothing where its caller is refused, or where it has none
unfoldable pub from_caller : {B : Type 0} → Result (Option Caller) → (Caller → List B) → List B
from_caller (good o) more = from_some o more
from_caller (bad n) more = []

-- n frames at most
unfoldable pub visited_f : Source → Fault → (n : ℕ) → Caller → List ℕ
visited_f source e zero c = []
visited_f source e (suc n) c =
    from_some (held_at e c) λ h.
    h.position ∷ from_caller (onward (source h.position h.offset) λ r. caller_of e.machine e.memory r c.slots)
    (visited_f source e n)

-- what the walk stands on
unfoldable pub fault_of : (machine : List ℕ) (stack : ℕ) (functions : List ℕ) → Recorded → Fault
fault_of machine stack functions f =
    record {
      machine = machine_of machine;
      memory = record { address = stack; bytes = f.stack };
      functions = placed_of functions;
    }

-- of a file, a machine or a word that is refused nothing is visited
unfoldable pub visited : Source → (machine file : List ℕ) → (pc stack : ℕ) → (functions : List ℕ) → List ℕ
visited source machine file pc stack functions =
    pick (machine_ok machine && eqb (machine_of machine).word 8)
    (from_some (read_recorded file) λ f.
    visited_f source (fault_of machine stack functions f) most_frames
    (record { slots = f.slots; pc = pc; exact = true }))
    []
