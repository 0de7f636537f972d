-- A writer and then the reader, with the mark of the shortest spelling (DWARF 5, 7.6: LEB128 numbers may be padded).
-- Nothing here says what a writer writes or how the reader reads.
use Rattle.std.specs.Prelude.{◌≡◌, ℕ, ◌*◌, Bool, List, T, get_or, take, Some, Ok}
use Rattle.format.specs.declared.Counts.{Counts}
use Rattle.format.specs.Coded.{Outcome}
use Rattle.format.specs.Lists.{relocation_stride}
use Rattle.format.specs.Answers.{bit}
use Rattle.format.specs.Reader.{shortest_at}
use Rattle.unwind.specs.Together.{bytes_in, relocs_in}
use Rattle.unwind.specs.Demand.{dwarf_output}
use Rattle.unwind.specs.declared.Numbers.{Numbers}

-- the mark of as much of the two buffers as the outcome says, with the writer's kind and word
unfoldable pub mark_for : (debug : Bool) (machine : List ℕ) → Outcome → (bytes relocations : List ℕ) → (k p : ℕ) → Bool
mark_for debug machine o bytes relocations k p =
    shortest_at (take (bytes_in o) bytes) (take (relocation_stride * relocs_in o) relocations) (bit debug)
    (get_or machine 0 0) k p

-- where the list was accepted for DWARF output and the reader does not refuse, the mark is yes
abbrev pub Marked : (format : ℕ) → Outcome → Numbers → Type 0
Marked format o r = (c : Counts) → T (dwarf_output format) → o ≡ Ok (Some c) → r.number ≡ 0 → r.shortest ≡ 1
