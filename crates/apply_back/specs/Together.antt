-- eh_frame's writer, its relocations applied to exactly what it wrote, and the reader on the bytes in place.
use Rattle.std.specs.Prelude.{◌≡◌, ℕ, ◌*◌, ◌<◌, List, [], T, eqb, get_or, take}
use Rattle.std.specs.Prelude.{Some, Ok}
use Rattle.format.specs.Prelude.{pick, Result}
use Rattle.format.specs.declared.Counts.{Counts}
use Rattle.format.specs.Coded.{Outcome, Reading}
use Rattle.format.specs.Lists.{function_stride, relocation_stride, count}
use Rattle.format.specs.Machine.{machine_of}
use Rattle.format.specs.Questions.{Given, given_function}
use Rattle.format.specs.RowCheck.{row_check_at}
use Rattle.format.specs.Rules.{seen}
use Rattle.format.specs.Reader.{read}
use Rattle.unwind.specs.Together.{bytes_in, relocs_in}
use Rattle.apply.specs.Values.{symbols_of}
use Rattle.apply.specs.Apply.{apply}
use Rattle.apply_back.specs.Moved.{new_length, moved_rules}

-- as much of the two buffers as the outcome says, put in place in a buffer of `room` bytes
unfoldable pub apply_for : Outcome → (bytes relocations addresses : List ℕ) → (section image room : ℕ) → Result (List ℕ)
apply_for o bytes relocations addresses section image room =
    apply (take (bytes_in o) bytes) (take (relocation_stride * relocs_in o) relocations) addresses section image room

-- how many bytes stand in place: as many as were written, or none where the relocations were refused
unfoldable pub placed_count : (number : ℕ) → Outcome → ℕ
placed_count number o = pick (eqb number 0) (bytes_in o) 0

-- the reader on those, with the writer's word; a section in place has no relocations
unfoldable pub reading_in_place : (machine : List ℕ) → (number : ℕ) → Outcome → (out : List ℕ) → (k q p : ℕ) → Reading
reading_in_place machine number o out k q p = read (take (placed_count number o) out) [] 0 (get_or machine 0 0) k q p

-- Where the list was accepted and its relocations were applied, function k passes the row check, and p is
-- below its new length, the reading is what the function's rows, moved as its labels were, give at p for
-- register q.
abbrev pub MovedBack : Given → (addresses : List ℕ) → Outcome → (number k q p : ℕ) → Reading → Type 0
MovedBack g addresses o number k q p reading =
    (c : Counts) → o ≡ Ok (Some c) → number ≡ 0 → k < count function_stride g.functions → T (row_check_at g.functions g.rows k)
    → p < new_length (symbols_of addresses) (given_function g k)
    → reading ≡ seen q (moved_rules (machine_of g.machine) (symbols_of addresses) (given_function g k) p)
