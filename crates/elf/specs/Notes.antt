-- Notes, one after another (System V gABI, "Note Section"): three numbers, a name and a text, these padded
-- to a multiple of 4 bytes; or to one of 8, where their section or segment has that alignment, as of
-- .note.gnu.property.
use Rattle.std.specs.Prelude.{ℕ, zero, suc, ◌+◌, ◌-◌, ◌*◌, ◌/◌, ◌≤◌, List, length, Bool, true, false, not, ◌&&◌, Result, Ok, Err, nat_le, nat_lt, ◌==◌, if◌then◌else◌, unwrap_or, min}
use Rattle.std.specs.Int.{w32}
use Rattle.std.specs.Str.{bytes_eq}
use Rattle.elf.specs.declared.notes.ElfNote.{ElfNote}
use Rattle.elf.specs.declared.refusal.Reason.TheVariants.{Outside, NoEntry, Alignment}
use Rattle.elf.specs.declared.refusal.Refusal.{Refusal}
use Rattle.elf.specs.Fields.{field, piece}
use Rattle.elf.specs.Refusals.{refuse, reason_number, ◌>>=◌}
use Rattle.elf.specs.Section.{end_of}

abbrev pub padded : (eight : Bool) → ℕ → ℕ
padded eight size = if eight then (size + 7) / 8 * 8 else (size + 3) / 4 * 4

-- by the alignment of what they stand in; one below 4 is taken as 4
abbrev pub is_padded_to_eight : (align place : ℕ) → Result Bool Refusal
is_padded_to_eight align place =
    if nat_le align 4 then Ok false else if align == 8 then Ok true else refuse Alignment place

-- a name ends at its 0
abbrev pub name_length : List ℕ → ℕ
name_length bytes = unwrap_or (end_of bytes) (length bytes)

-- how far behind a note's place its text begins: behind namesz, descsz and type and the name
abbrev pub before_text : (eight : Bool) → List ℕ → (place : ℕ) → ℕ
before_text eight file place = padded eight (12 + field w32 file place)

abbrev pub through_text : (eight : Bool) → List ℕ → (place : ℕ) → ℕ
through_text eight file place = before_text eight file place + field w32 file (place + 4)

abbrev pub note_numbers : (eight : Bool) → List ℕ → (place end : ℕ) → ElfNote
note_numbers eight file place end =
    record {
      number = 0;
      at = 0;
      kind = field w32 file (place + 8);
      name = place + 12;
      name_length = name_length (piece file (place + 12) (field w32 file place));
      text = place + before_text eight file place;
      text_length = field w32 file (place + 4);
      next = place + min (padded eight (through_text eight file place)) (end - place);
    }

-- name and text lie in front of an end, and so does the next note
abbrev pub NoteLiesIn : (size : ℕ) → ElfNote → Type 0
NoteLiesIn size n = (n.name + n.name_length ≤ size) × (n.text + n.text_length ≤ size) × (n.next ≤ size)

-- the note at a place in front of an end; the last one may lack its padding
unfoldable pub note_in : List ℕ → (place end : ℕ) → (eight : Bool) → Result ElfNote Refusal
note_in file place end eight =
    if place == end then refuse NoEntry place
    else if nat_lt (end - place) 12 then refuse Outside place
    else if nat_lt (end - place) (through_text eight file place) then refuse Outside place
    else Ok (note_numbers eight file place end)

abbrev pub is_wanted : List ℕ → (name : List ℕ) → (kind : ℕ) → ElfNote → Bool
is_wanted file name kind n = (n.kind == kind) && bytes_eq (piece file n.name n.name_length) name

-- the first note of a name and a kind, among at most so many
unfoldable pub first_note :
    List ℕ → (name : List ℕ) → (kind end : ℕ) → (eight : Bool) → (most place : ℕ) → Result ElfNote Refusal
first_note file name kind end eight zero place = refuse NoEntry end
first_note file name kind end eight (suc most) place =
    note_in file place end eight >>= λ n.
    if is_wanted file name kind n then Ok n else first_note file name kind end eight most n.next

-- from `place` to `end` is a part of the file
abbrev pub is_part : List ℕ → (place end : ℕ) → Bool
is_part file place end = nat_le place end && nat_le end (length file)

unfoldable pub note_at : List ℕ → (place end align : ℕ) → Result ElfNote Refusal
note_at file place end align =
    if not (is_part file place end) then refuse Outside place
    else is_padded_to_eight align place >>= λ eight. note_in file place end eight

-- each note has 12 bytes or more, so there are fewer notes than bytes
unfoldable pub note_named :
    List ℕ → (place end align : ℕ) → (name : List ℕ) → (kind : ℕ) → Result ElfNote Refusal
note_named file place end align name kind =
    if not (is_part file place end) then refuse Outside place
    else is_padded_to_eight align place >>= λ eight. first_note file name kind end eight (end - place) place

-- for C
abbrev pub refused_note : Refusal → ElfNote
refused_note r =
    record {
      number = reason_number r.reason;
      at = r.place;
      kind = 0;
      name = 0;
      name_length = 0;
      text = 0;
      text_length = 0;
      next = 0;
    }

abbrev pub note_answer : Result ElfNote Refusal → ElfNote
note_answer (Ok n) = n
note_answer (Err r) = refused_note r
