-- The section table of a file (System V gABI, "ELF Header", "Sections" and "Extended section numbering").
use Rattle.std.specs.Prelude.{ℕ, ◌+◌, List, length, Bool, not, ◌||◌, Result, Ok, Err, nat_lt, ◌==◌, if◌then◌else◌}
use Rattle.std.specs.Int.{w16, w32}
use Rattle.elf.specs.declared.«class».Class.{Class}
use Rattle.elf.specs.declared.refusal.Reason.TheVariants.{Outside, Name, EntrySize}
use Rattle.elf.specs.declared.refusal.Refusal.{Refusal}
use Rattle.elf.specs.declared.sections.ElfSections.{ElfSections}
use Rattle.elf.specs.declared.sections.SectionEntry.{SectionEntry}
use Rattle.elf.specs.declared.sections.Sections.{Sections}
use Rattle.elf.specs.declared.table.Table.{Table}
use Rattle.elf.specs.Fields.{field, word, by_class}
use Rattle.elf.specs.Header.{class_of}
use Rattle.elf.specs.Refusals.{refuse, reason_number, ◌>>=◌}
use Rattle.elf.specs.Tables.{is_inside, entry_place, entry_of}

-- the size of an entry, Elf32_Shdr and Elf64_Shdr
abbrev pub section_size : Class → ℕ
section_size c = by_class c 40 64

-- where the header's fields stand: e_shoff, e_shentsize, e_shnum and e_shstrndx
abbrev pub shoff : Class → ℕ
shoff c = by_class c 32 40

abbrev pub shentsize : Class → ℕ
shentsize c = by_class c 46 58

abbrev pub shnum : Class → ℕ
shnum c = by_class c 48 60

abbrev pub shstrndx : Class → ℕ
shstrndx c = by_class c 50 62

abbrev pub sections_place : Class → List ℕ → ℕ
sections_place c file = word c file (shoff c)

-- what is too large for the header stands in section 0: the count in sh_size, where e_shnum is 0
unfoldable pub count_of : Class → List ℕ → (place : ℕ) → ℕ
count_of c file place =
    if field w16 file (shnum c) == 0 then word c file (place + by_class c 20 32) else field w16 file (shnum c)

-- and the index of the names in sh_link, where e_shstrndx is SHN_XINDEX
unfoldable pub names_of : Class → List ℕ → (place : ℕ) → ℕ
names_of c file place =
    if field w16 file (shstrndx c) == 65535 then field w32 file (place + by_class c 24 40)
    else field w16 file (shstrndx c)

abbrev pub table_in : Sections → Table
table_in t = record { place = t.place; size = section_size t.«class»; count = t.count }

-- the table lies in the file, and has the section of names that it tells of
unfoldable pub checked : Sections → List ℕ → Result Sections Refusal
checked t file =
    if not (is_inside (table_in t) (length file)) then refuse Outside (shoff t.«class»)
    else if (t.names == 0) || nat_lt t.names t.count then Ok t
    else refuse Name (shstrndx t.«class»)

-- section 0's entry lies in the file
abbrev pub has_first : Class → List ℕ → (place : ℕ) → Bool
has_first c file place = is_inside (record { place = place; size = section_size c; count = 1 }) (length file)

abbrev pub sections_from : Class → List ℕ → (place : ℕ) → Sections
sections_from c file place =
    record { «class» = c; place = place; count = count_of c file place; names = names_of c file place }

-- the table at a place that is not 0
unfoldable pub table_at : Class → List ℕ → (place : ℕ) → Result Sections Refusal
table_at c file place =
    if not (field w16 file (shentsize c) == section_size c) then refuse EntrySize (shentsize c)
    else if not (has_first c file place) then refuse Outside (shoff c)
    else checked (sections_from c file place) file

-- a file whose e_shoff is 0 has no sections
unfoldable pub sections_of : Class → List ℕ → Result Sections Refusal
sections_of c file =
    if sections_place c file == 0 then Ok (record { «class» = c; place = 0; count = 0; names = 0 })
    else table_at c file (sections_place c file)

unfoldable pub file_sections : List ℕ → Result Sections Refusal
file_sections file = class_of file >>= λ c. sections_of c file

-- what the entry says that stands at a place of the file: Elf32_Shdr and Elf64_Shdr
abbrev pub entry_in : Class → (at : ℕ) → List ℕ → SectionEntry
entry_in c at r =
    record {
      at = at;
      name = field w32 r 0;
      kind = field w32 r 4;
      flags = word c r 8;
      address = word c r (by_class c 12 16);
      place = word c r (by_class c 16 24);
      size = word c r (by_class c 20 32);
      link = field w32 r (by_class c 24 40);
      info = field w32 r (by_class c 28 44);
      align = word c r (by_class c 32 48);
      entry_size = word c r (by_class c 36 56);
    }

unfoldable pub entry_at : List ℕ → Sections → (index : ℕ) → Result SectionEntry Refusal
entry_at file t i =
    entry_of (table_in t) file i >>= λ r. Ok (entry_in t.«class» (entry_place (table_in t) i) r)

-- for C
abbrev pub sections_numbers : Sections → ElfSections
sections_numbers t = record { number = 0; at = 0; place = t.place; count = t.count; names = t.names }

abbrev pub refused_sections : Refusal → ElfSections
refused_sections r = record { number = reason_number r.reason; at = r.place; place = 0; count = 0; names = 0 }

abbrev pub sections_or : Result Sections Refusal → ElfSections
sections_or (Ok t) = sections_numbers t
sections_or (Err r) = refused_sections r

abbrev pub sections_answer : List ℕ → ElfSections
sections_answer file = sections_or (file_sections file)
