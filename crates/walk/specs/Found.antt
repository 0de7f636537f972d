-- The frames that a walk finds, also where it is then refused: those in front of the frame at which it is refused,
-- and this one.
use Rattle.std.specs.Prelude.{ℕ, zero, suc, true, ◌&&◌, List, [], ◌∷◌, eqb}
use Rattle.format.specs.Prelude.{pick, onward}
use Rattle.format.specs.Machine.{machine_of, machine_ok}
use Rattle.walk.specs.Recorded.{read_recorded}
use Rattle.walk.specs.declared.Frame.{Frame}
use Rattle.walk.specs.Walk.{Source, Fault, Caller, most_frames, held_at, caller_of}
use Rattle.walk.specs.Visited.{from_some, from_caller, fault_of}

-- n frames at most
unfoldable pub found_f : Source → Fault → (n : ℕ) → Caller → List Frame
found_f source e zero c = []
found_f source e (suc n) c =
    from_some (held_at e c) λ h.
    record { position = h.position; pc = c.pc }
    ∷ from_caller (onward (source h.position h.offset) λ r. caller_of e.machine e.memory r c.slots) (found_f source e n)

-- of a file, a machine or a word that is refused none
unfoldable pub found : Source → (machine file : List ℕ) → (pc stack : ℕ) → (functions : List ℕ) → List Frame
found source machine file pc stack functions =
    pick (machine_ok machine && eqb (machine_of machine).word 8)
    (from_some (read_recorded file) λ f.
    found_f source (fault_of machine stack functions f) most_frames (record { slots = f.slots; pc = pc; exact = true }))
    []
