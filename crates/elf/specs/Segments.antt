-- The segments of a file (System V gABI, "ELF Header" and "Program Header").
use Rattle.std.specs.Prelude.{ℕ, ◌+◌, ◌-◌, ◌≤◌, ◌<◌, List, length, not, ◌||◌, Result, Ok, Err, ◌==◌, if◌then◌else◌, min}
use Rattle.std.specs.Int.{w16, w32}
use Rattle.elf.specs.declared.«class».Class.{Class}
use Rattle.elf.specs.declared.refusal.Reason.TheVariants.{Outside, EntrySize}
use Rattle.elf.specs.declared.refusal.Refusal.{Refusal}
use Rattle.elf.specs.declared.segments.ElfSegment.{ElfSegment}
use Rattle.elf.specs.declared.segments.ElfSegments.{ElfSegments}
use Rattle.elf.specs.declared.segments.Segments.{Segments}
use Rattle.elf.specs.declared.table.Table.{Table}
use Rattle.elf.specs.Fields.{field, word, by_class}
use Rattle.elf.specs.Header.{class_of}
use Rattle.elf.specs.Refusals.{refuse, reason_number, ◌>>=◌}
use Rattle.elf.specs.Sections.{shoff, sections_place, has_first}
use Rattle.elf.specs.Tables.{is_inside, entry_of}

-- the size of an entry, Elf32_Phdr and Elf64_Phdr
abbrev pub segment_size : Class → ℕ
segment_size c = by_class c 32 56

-- where the header's fields stand: e_phoff, e_phentsize and e_phnum
abbrev pub phoff : Class → ℕ
phoff c = by_class c 28 32

abbrev pub phentsize : Class → ℕ
phentsize c = by_class c 42 54

abbrev pub phnum : Class → ℕ
phnum c = by_class c 44 56

abbrev pub table_in : Segments → Table
table_in t = record { place = t.place; size = segment_size t.«class»; count = t.count }

-- sh_info of section 0, whose entry lies in the file
unfoldable pub first_info : Class → List ℕ → Result ℕ Refusal
first_info c file =
    if (sections_place c file == 0) || not (has_first c file (sections_place c file))
    then refuse Outside (shoff c)
    else Ok (field w32 file (sections_place c file + by_class c 28 44))

-- a count that is too large for the header stands in section 0, where e_phnum is PN_XNUM
unfoldable pub count_of : Class → List ℕ → Result ℕ Refusal
count_of c file =
    if field w16 file (phnum c) == 65535 then first_info c file else Ok (field w16 file (phnum c))

abbrev pub checked : Segments → List ℕ → Result Segments Refusal
checked t file = if is_inside (table_in t) (length file) then Ok t else refuse Outside (phoff t.«class»)

-- a file whose e_phoff is 0 has no segments
unfoldable pub segments_of : Class → List ℕ → Result Segments Refusal
segments_of c file =
    if word c file (phoff c) == 0 then Ok (record { «class» = c; place = 0; count = 0 })
    else if not (field w16 file (phentsize c) == segment_size c) then refuse EntrySize (phentsize c)
    else count_of c file >>= λ count.
    checked (record { «class» = c; place = word c file (phoff c); count = count }) file

unfoldable pub file_segments : List ℕ → Result Segments Refusal
file_segments file = class_of file >>= λ c. segments_of c file

-- for C
abbrev pub segments_numbers : Segments → ElfSegments
segments_numbers t = record { number = 0; at = 0; place = t.place; count = t.count }

abbrev pub refused_segments : Refusal → ElfSegments
refused_segments r = record { number = reason_number r.reason; at = r.place; place = 0; count = 0 }

abbrev pub segments_or : Result Segments Refusal → ElfSegments
segments_or (Ok t) = segments_numbers t
segments_or (Err r) = refused_segments r

abbrev pub segments_answer : List ℕ → ElfSegments
segments_answer file = segments_or (file_segments file)

-- the bytes that a file has of a segment
abbrev pub SegmentLiesIn : (size : ℕ) → ElfSegment → Type 0
SegmentLiesIn size s = 0 < s.length → s.place + s.length ≤ size

-- what an entry says in a file of a size: Elf32_Phdr and Elf64_Phdr; a file may be cut off, and has the rest
abbrev pub segment_in : Class → (index size : ℕ) → List ℕ → ElfSegment
segment_in c index size r =
    record {
      number = 0;
      at = 0;
      index = index;
      kind = field w32 r 0;
      flags = field w32 r (by_class c 24 4);
      place = word c r (by_class c 4 8);
      address = word c r (by_class c 8 16);
      physical = word c r (by_class c 12 24);
      size = word c r (by_class c 16 32);
      memory = word c r (by_class c 20 40);
      align = word c r (by_class c 28 48);
      length = min (word c r (by_class c 16 32)) (size - word c r (by_class c 4 8));
    }

unfoldable pub segment_at : List ℕ → (index : ℕ) → Result ElfSegment Refusal
segment_at file i =
    file_segments file >>= λ t. entry_of (table_in t) file i >>= λ r.
    Ok (segment_in t.«class» i (length file) r)

abbrev pub refused_segment : Refusal → ElfSegment
refused_segment r =
    record {
      number = reason_number r.reason;
      at = r.place;
      index = 0;
      kind = 0;
      flags = 0;
      place = 0;
      address = 0;
      physical = 0;
      size = 0;
      memory = 0;
      align = 0;
      length = 0;
    }

abbrev pub segment_answer : Result ElfSegment Refusal → ElfSegment
segment_answer (Ok s) = s
segment_answer (Err r) = refused_segment r
