-- The read-back theorem for a whole chain of callers: the walk by a section that was written, against the functions'
-- rows. Nothing here says what a writer writes or how the reader reads.
use Rattle.std.specs.Prelude.{◌≡◌, ℕ, ◌*◌, ◌<◌, Bool, ◌||◌, List, All, T, eqb, length, take}
use Rattle.std.proofs.Math.Option.{none}
use Rattle.format.specs.Prelude.{Result}
use Rattle.format.specs.declared.Counts.{Counts}
use Rattle.format.specs.Coded.{Outcome}
use Rattle.std.specs.Prelude.{Some, None, Ok, Err}
use Rattle.format.specs.Lists.{function_stride, relocation_stride, count, field}
use Rattle.format.specs.Questions.{Given, given_function}
use Rattle.format.specs.Answers.{bit}
use Rattle.format.specs.RowCheck.{row_check_at}
use Rattle.unwind.specs.Together.{bytes_in, relocs_in}
use Rattle.unwind.specs.Demand.{dwarf_output}
use Rattle.walk.specs.Walk.{Chain, walk_by, by_section, by_rows}
use Rattle.walk.specs.Visited.{visited}
use Rattle.walked.specs.Entry.{numbers_of, chain_numbers, chain_stored}
use Rattle.walked.specs.declared.Answer.{Answer}

-- the walk by as much of the two buffers as the outcome says, with the writer's kind and machine
unfoldable pub walk_for : (debug : Bool) (machine : List ℕ) → Outcome → (bytes relocations file : List ℕ) → (pc stack : ℕ) → (placed : List ℕ) → (room : ℕ) → Result Chain
walk_for debug machine o bytes relocations file pc stack placed room =
    walk_by (by_section (take (bytes_in o) bytes) (take (relocation_stride * relocs_in o) relocations) (bit debug)) machine file pc stack placed room

-- Function k that is placed is function k of the list, has no relaxing labels, passes the row check, and has its
-- length. The positions are tied, since the frames name a function by its position and the section's records are
-- found by it: a function of the list that is not told of has a length of 0 there, which holds no address.
pub record Placing (g : Given) (placed : List ℕ) (k : ℕ) : Type 0 where
  pub there : k < count function_stride g.functions
  pub plain : (given_function g k).relaxed ≡ none
  pub checked : T (row_check_at g.functions g.rows k)
  pub lengths : field 2 placed k 1 ≡ (given_function g k).size

-- 0, or a number that is not the reader's: 12, 54, 73, 74 or 75
unfoldable pub not_readers : ℕ → Bool
not_readers n = eqb n 0 || (eqb n 12 || (eqb n 54 || (eqb n 73 || (eqb n 74 || eqb n 75))))

-- the walk is that by the rows: the same frames, the same ending or refusal, and never a reader's number
pub record ByRows (g : Given) (file : List ℕ) (pc stack : ℕ) (placed old : List ℕ) (a : Answer) (new : List ℕ) : Type 0 where
  pub answer : numbers_of a ≡ chain_numbers (walk_by (by_rows g) g.machine file pc stack placed (length old))
  pub stored : new ≡ chain_stored (walk_by (by_rows g) g.machine file pc stack placed (length old)) old
  pub number : T (not_readers a.number)

-- The walk is that by the rows, where each function that the walk by the rows visits is placed so: those of its
-- frames and, where it is refused at a frame, that of this one. And it is where it was answered, by an ending that is
-- not 0, and the function of each frame that it listed is placed so. Nothing is asked of the other functions, whether
-- they relax or fail the row check.
pub record WalkedBack (g : Given) (file : List ℕ) (pc stack : ℕ) (placed old : List ℕ) (a : Answer) (new : List ℕ)
    : Type 0 where
  pub by_visited :
      All (Placing g placed) (visited (by_rows g) g.machine file pc stack placed)
      → ByRows g file pc stack placed old a new
  pub by_listed :
      0 < a.ending → ((i : ℕ) → i < a.frames → Placing g placed (field 2 new i 0))
      → ByRows g file pc stack placed old a new

-- where the list was accepted for DWARF output
abbrev pub WalksBack : (format : ℕ) (g : Given) (o : Outcome) (file : List ℕ) (pc stack : ℕ) (placed old : List ℕ)
    (a : Answer) (new : List ℕ) → Type 0
WalksBack format g o file pc stack placed old a new =
    (c : Counts) → T (dwarf_output format) → o ≡ Ok (Some c) → WalkedBack g file pc stack placed old a new
