-- The relocations of a section (System V gABI, "Relocation").
use Rattle.std.specs.Prelude.{ℕ, ◌+◌, ◌/◌, ◌%◌, ◌^◌, List, Bool, true, false, not, Result, Ok, Err, ◌==◌, if◌then◌else◌}
use Rattle.std.specs.Int.{w32, w64, cast_signed, cast_unsigned}
use Rattle.elf.specs.declared.«class».Class.{Class}
use Rattle.elf.specs.declared.refusal.Reason.TheVariants.{Kind}
use Rattle.elf.specs.declared.refusal.Refusal.{Refusal}
use Rattle.elf.specs.declared.sections.SectionEntry.{SectionEntry}
use Rattle.elf.specs.declared.sections.Sections.{Sections}
use Rattle.elf.specs.declared.table.Table.{Table}
use Rattle.elf.specs.Fields.{field, word, by_class, is_wide}
use Rattle.elf.specs.Refusals.{refuse, reason_number, ◌>>=◌}
use Rattle.elf.specs.Section.{bit}
use Rattle.elf.specs.Sections.{file_sections, entry_at}
use Rattle.elf.specs.Tables.{entry_of}
use Rattle.elf_symbols.specs.declared.relocations.ElfRelocation.{ElfRelocation}
use Rattle.elf_symbols.specs.declared.relocations.Relocations.{Relocations}
use Rattle.elf_symbols.specs.Entries.{entries_in}

-- the size of an entry: Elf32_Rela and Elf64_Rela, Elf32_Rel and Elf64_Rel
abbrev pub relocation_size : Class → (addends : Bool) → ℕ
relocation_size c addends = if addends then by_class c 12 24 else by_class c 8 16

abbrev pub relocations_table : Relocations → Table
relocations_table t = record { place = t.place; size = relocation_size t.«class» t.addends; count = t.count }

-- SHT_RELA and SHT_REL
abbrev pub has_addends_of : SectionEntry → Result Bool Refusal
has_addends_of e = if e.kind == 4 then Ok true else if e.kind == 9 then Ok false else refuse Kind (e.at + 4)

-- the relocations of the section at an index
unfoldable pub relocations_of : List ℕ → Sections → (section : ℕ) → Result Relocations Refusal
relocations_of file t k =
    entry_at file t k >>= λ e. has_addends_of e >>= λ addends.
    entries_in file t e (relocation_size t.«class» addends) >>= λ table.
    Ok (record { «class» = t.«class»; addends = addends; place = table.place; count = table.count })

-- r_addend, in 64 bits
abbrev pub addend_in : Relocations → List ℕ → ℕ
addend_in t r =
    if not t.addends then 0
    else if is_wide t.«class» then field w64 r 16
    else cast_unsigned w64 (cast_signed w32 (field w32 r 8))

-- ELF32_R_SYM and ELF32_R_TYPE, ELF64_R_SYM and ELF64_R_TYPE: r_info has the symbol above the kind
abbrev pub symbol_of : Class → (info : ℕ) → ℕ
symbol_of c info = if is_wide c then info / 2 ^ 32 else info / 2 ^ 8

abbrev pub kind_of : Class → (info : ℕ) → ℕ
kind_of c info = if is_wide c then info % 2 ^ 32 else info % 2 ^ 8

-- what an entry says
abbrev pub relocation_in : Relocations → (index : ℕ) → List ℕ → ElfRelocation
relocation_in t index r =
    record {
      number = 0;
      at = 0;
      index = index;
      place = word t.«class» r 0;
      symbol = symbol_of t.«class» (word t.«class» r (by_class t.«class» 4 8));
      kind = kind_of t.«class» (word t.«class» r (by_class t.«class» 4 8));
      addend = addend_in t r;
      has_addend = bit t.addends;
    }

unfoldable pub relocation_at : List ℕ → (section index : ℕ) → Result ElfRelocation Refusal
relocation_at file k i =
    file_sections file >>= λ t. relocations_of file t k >>= λ r.
    entry_of (relocations_table r) file i >>= λ bytes.
    Ok (relocation_in r i bytes)

-- for C
abbrev pub refused_relocation : Refusal → ElfRelocation
refused_relocation r =
    record {
      number = reason_number r.reason;
      at = r.place;
      index = 0;
      place = 0;
      symbol = 0;
      kind = 0;
      addend = 0;
      has_addend = 0;
    }

abbrev pub relocation_answer : Result ElfRelocation Refusal → ElfRelocation
relocation_answer (Ok x) = x
relocation_answer (Err r) = refused_relocation r
