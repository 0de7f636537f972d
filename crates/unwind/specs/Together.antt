-- A writer and then the reader on exactly what it wrote.
use Rattle.std.specs.Prelude.{ℕ, ◌*◌, Bool, List, get_or, take}
use Rattle.format.specs.Prelude.{pick}
use Rattle.format.specs.Coded.{Outcome}
use Rattle.std.specs.Prelude.{Some, None, Ok, Err}
use Rattle.format.specs.Coded.{Reading}
use Rattle.format.specs.Lists.{relocation_stride}
use Rattle.format.specs.Questions.{Given, Room, Answer, relaxed_table, relaxed_debug_frame}
use Rattle.format.specs.Answers.{bit}
use Rattle.format.specs.Reader.{read}

-- the writer of debug_frame, or the other
unfoldable pub answer_for : (debug : Bool) (format : ℕ) → Given → Room → Answer
answer_for debug format g r = pick debug (relaxed_debug_frame format g r) (relaxed_table format g r)

-- how many bytes, and how many relocations, an outcome says were written
unfoldable pub bytes_in : Outcome → ℕ
bytes_in (Ok (Some c)) = c.bytes
bytes_in (Ok None) = 0
bytes_in (Err r) = 0

unfoldable pub relocs_in : Outcome → ℕ
relocs_in (Ok (Some c)) = c.relocations
relocs_in (Ok None) = 0
relocs_in (Err r) = 0

-- the reader on as much of the two buffers as the outcome says, with the writer's kind and word
unfoldable pub reading_for : (debug : Bool) (machine : List ℕ) → Outcome → (bytes relocations : List ℕ) → (k q p : ℕ) → Reading
reading_for debug machine o bytes relocations k q p =
    read (take (bytes_in o) bytes) (take (relocation_stride * relocs_in o) relocations) (bit debug) (get_or machine 0 0) k q p
