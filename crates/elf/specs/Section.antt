-- One section: its name and its bytes (System V gABI, "Sections", "String Table" and "Section Compression").
use Rattle.std.specs.Prelude.{ℕ, ◌+◌, ◌-◌, ◌*◌, ◌≤◌, ◌<◌, List, length, Bool, false, not, ◌&&◌, ◌||◌, Option, Some, None, Result, Ok, Err, nat_le, nat_lt, nat_eq, ◌==◌, if◌then◌else◌, bit_and, codes}
use Rattle.std.specs.List.{position, starts_with}
use Rattle.std.specs.Str.{bytes_eq}
use Rattle.elf.specs.declared.refusal.Reason.TheVariants.{Outside, Name, Compressed, NoEntry}
use Rattle.elf.specs.declared.refusal.Refusal.{Refusal}
use Rattle.elf.specs.declared.section.ElfSection.{ElfSection}
use Rattle.elf.specs.declared.section.Span.{Span}
use Rattle.elf.specs.declared.sections.SectionEntry.{SectionEntry}
use Rattle.elf.specs.declared.sections.Sections.{Sections}
use Rattle.elf.specs.Fields.{piece, by_class}
use Rattle.elf.specs.Refusals.{refuse, reason_number, ◌>>=◌}
use Rattle.elf.specs.Searches.{first}
use Rattle.elf.specs.Sections.{section_size, file_sections, entry_at}

-- SHT_NULL and SHT_NOBITS have no bytes in the file
abbrev pub is_empty : SectionEntry → Bool
is_empty e = (e.kind == 0) || (e.kind == 8)

-- SHF_COMPRESSED
abbrev pub has_compressed_flag : SectionEntry → Bool
has_compressed_flag e = not (bit_and e.flags 0x800 == 0)

-- by its flag, or as GNU tools named it before there was one
abbrev pub is_compressed : SectionEntry → (name : List ℕ) → Bool
is_compressed e name = has_compressed_flag e || starts_with nat_eq name (codes ".zdebug")

abbrev pub nothing : Span
nothing = record { place = 0; length = 0 }

-- the bytes of a section lie in the file; else sh_offset is at fault
unfoldable pub bytes_of : List ℕ → Sections → SectionEntry → Result Span Refusal
bytes_of file t e =
    if is_empty e then Ok nothing
    else if nat_le (e.place + e.size) (length file) then Ok (record { place = e.place; length = e.size })
    else refuse Outside (e.at + by_class t.«class» 16 24)

-- of a section that is not compressed; else sh_flags is at fault
unfoldable pub plain_bytes_of : List ℕ → Sections → SectionEntry → Result Span Refusal
plain_bytes_of file t e = if has_compressed_flag e then refuse Compressed (e.at + 8) else bytes_of file t e

-- the strings in a section
unfoldable pub strings_of : List ℕ → Sections → (index : ℕ) → Result Span Refusal
strings_of file t i = entry_at file t i >>= λ e. plain_bytes_of file t e

abbrev pub end_of : List ℕ → Option ℕ
end_of bytes = position (λ b. b == 0) bytes

-- as many bytes from a place on as stand before the first 0
abbrev pub before_zero : (place fault : ℕ) → Option ℕ → Result Span Refusal
before_zero place fault None = refuse Name fault
before_zero place fault (Some n) = Ok (record { place = place; length = n })

-- the name that begins at an offset in strings and ends in them; offset 0 of an empty section is an empty
-- name
unfoldable pub name_in : List ℕ → Span → (offset fault : ℕ) → Result Span Refusal
name_in file s offset fault =
    if (offset == 0) && (s.length == 0) then Ok s
    else if nat_lt s.length offset then refuse Name fault
    else before_zero (s.place + offset) fault (end_of (piece file (s.place + offset) (s.length - offset)))

-- where e_shstrndx is SHN_UNDEF, sections have no names
unfoldable pub name_of : List ℕ → Sections → SectionEntry → Result Span Refusal
name_of file t e =
    if t.names == 0 then Ok nothing else strings_of file t t.names >>= λ s. name_in file s e.name e.at

-- for C
abbrev pub bit : Bool → ℕ
bit b = if b then 1 else 0

abbrev pub section_numbers :
    (index : ℕ) → SectionEntry → (name bytes : Span) → (compressed : Bool) → ElfSection
section_numbers index e name bytes compressed =
    record {
      number = 0;
      at = 0;
      index = index;
      name = name.place;
      name_length = name.length;
      kind = e.kind;
      flags = e.flags;
      address = e.address;
      place = e.place;
      size = e.size;
      length = bytes.length;
      link = e.link;
      info = e.info;
      align = e.align;
      entry_size = e.entry_size;
      compressed = bit compressed;
    }

-- the name lies in the file, and so do the bytes, where there are some
abbrev pub SectionLiesIn : (size : ℕ) → ElfSection → Type 0
SectionLiesIn size s = (s.name + s.name_length ≤ size) × (0 < s.length → s.place + s.length ≤ size)

-- the section at an index of a table
unfoldable pub section_in : List ℕ → Sections → (index : ℕ) → Result ElfSection Refusal
section_in file t i =
    entry_at file t i >>= λ e. name_of file t e >>= λ name. bytes_of file t e >>= λ bytes.
    Ok (section_numbers i e name bytes (is_compressed e (piece file name.place name.length)))

unfoldable pub section_at : List ℕ → (index : ℕ) → Result ElfSection Refusal
section_at file i = file_sections file >>= λ t. section_in file t i

-- whether the section at an index has this name; one whose name cannot be read has none
abbrev pub holds : Result Bool Refusal → Bool
holds (Ok b) = b
holds (Err r) = false

unfoldable pub has_name : List ℕ → Sections → (wanted : List ℕ) → (index : ℕ) → Bool
has_name file t wanted i =
    holds (entry_at file t i >>= λ e. name_of file t e >>= λ n.
    Ok (bytes_eq (piece file n.place n.length) wanted))

-- the section found; else 107 at the table's end
abbrev pub found_in : List ℕ → Sections → Option ℕ → Result ElfSection Refusal
found_in file t None = refuse NoEntry (t.place + section_size t.«class» * t.count)
found_in file t (Some i) = section_in file t i

-- the first section of a name
unfoldable pub named_in : List ℕ → Sections → (wanted : List ℕ) → Result ElfSection Refusal
named_in file t wanted = found_in file t (first (has_name file t wanted) t.count 0)

unfoldable pub section_named : List ℕ → (wanted : List ℕ) → Result ElfSection Refusal
section_named file wanted = file_sections file >>= λ t. named_in file t wanted

abbrev pub refused_section : Refusal → ElfSection
refused_section r =
    record {
      number = reason_number r.reason;
      at = r.place;
      index = 0;
      name = 0;
      name_length = 0;
      kind = 0;
      flags = 0;
      address = 0;
      place = 0;
      size = 0;
      length = 0;
      link = 0;
      info = 0;
      align = 0;
      entry_size = 0;
      compressed = 0;
    }

abbrev pub section_answer : Result ElfSection Refusal → ElfSection
section_answer (Ok s) = s
section_answer (Err r) = refused_section r
