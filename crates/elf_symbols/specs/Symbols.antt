-- The symbols of a section (System V gABI, "Symbol Table").
use Rattle.std.specs.Prelude.{◌≡◌, ℕ, ◌+◌, ◌/◌, ◌%◌, ◌≤◌, List, Bool, true, not, ◌||◌, Result, Ok, Err, slice_index, ◌==◌, if◌then◌else◌}
use Rattle.std.specs.Int.{w16, w32}
use Rattle.elf.specs.declared.«class».Class.{Class}
use Rattle.elf.specs.declared.refusal.Reason.TheVariants.{Kind}
use Rattle.elf.specs.declared.refusal.Refusal.{Refusal}
use Rattle.elf.specs.declared.section.Span.{Span}
use Rattle.elf.specs.declared.sections.SectionEntry.{SectionEntry}
use Rattle.elf.specs.declared.sections.Sections.{Sections}
use Rattle.elf.specs.declared.table.Table.{Table}
use Rattle.elf.specs.Fields.{field, word, by_class}
use Rattle.elf.specs.Refusals.{refuse, reason_number, ◌>>=◌}
use Rattle.elf.specs.Section.{name_in, strings_of}
use Rattle.elf.specs.Sections.{file_sections, entry_at as section_entry}
use Rattle.elf.specs.Tables.{is_inside, entry_place, entry_of}
use Rattle.elf_symbols.specs.declared.symbols.ElfSymbol.{ElfSymbol}
use Rattle.elf_symbols.specs.declared.symbols.SymbolEntry.{SymbolEntry}
use Rattle.elf_symbols.specs.declared.symbols.Symbols.{Symbols}
use Rattle.elf_symbols.specs.Entries.{entries_in}

-- the size of an entry, Elf32_Sym and Elf64_Sym
abbrev pub symbol_size : Class → ℕ
symbol_size c = by_class c 16 24

-- SHT_SYMTAB and SHT_DYNSYM
abbrev pub is_symbols : SectionEntry → Bool
is_symbols e = (e.kind == 2) || (e.kind == 11)

abbrev pub symbols_table : Symbols → Table
symbols_table s = record { place = s.place; size = symbol_size s.«class»; count = s.count }

-- symbols and strings lie in a file of a size
abbrev pub SymbolsLieIn : (size : ℕ) → Symbols → Type 0
SymbolsLieIn size s = (is_inside (symbols_table s) size ≡ true) × (s.strings.place + s.strings.length ≤ size)

-- the symbols of the section at an index; sh_link has the section of their names
unfoldable pub symbols_of : List ℕ → Sections → (section : ℕ) → Result Symbols Refusal
symbols_of file t k =
    section_entry file t k >>= λ e.
    if not (is_symbols e) then refuse Kind (e.at + 4)
    else entries_in file t e (symbol_size t.«class») >>= λ table. strings_of file t e.link >>= λ strings.
    Ok (record { «class» = t.«class»; place = table.place; count = table.count; strings = strings })

-- what the entry says that stands at a place of the file: Elf32_Sym and Elf64_Sym
abbrev pub entry_in : Class → (at : ℕ) → List ℕ → SymbolEntry
entry_in c at r =
    record {
      at = at;
      name = field w32 r 0;
      value = word c r (by_class c 4 8);
      size = word c r (by_class c 8 16);
      info = slice_index r (by_class c 12 4);
      other = slice_index r (by_class c 13 5);
      section = field w16 r (by_class c 14 6);
    }

unfoldable pub entry_at : List ℕ → Symbols → (index : ℕ) → Result SymbolEntry Refusal
entry_at file s i =
    entry_of (symbols_table s) file i >>= λ r. Ok (entry_in s.«class» (entry_place (symbols_table s) i) r)

-- ELF32_ST_TYPE, ELF32_ST_BIND and ELF32_ST_VISIBILITY
abbrev pub kind_of : SymbolEntry → ℕ
kind_of e = e.info % 16

abbrev pub binding_of : SymbolEntry → ℕ
binding_of e = e.info / 16

abbrev pub visibility_of : SymbolEntry → ℕ
visibility_of e = e.other % 4

-- for C
abbrev pub symbol_numbers : (index : ℕ) → SymbolEntry → (name : Span) → ElfSymbol
symbol_numbers index e name =
    record {
      number = 0;
      at = 0;
      index = index;
      name = name.place;
      name_length = name.length;
      value = e.value;
      size = e.size;
      kind = kind_of e;
      binding = binding_of e;
      visibility = visibility_of e;
      section = e.section;
    }

-- the name lies in the file
abbrev pub SymbolLiesIn : (size : ℕ) → ElfSymbol → Type 0
SymbolLiesIn size s = s.name + s.name_length ≤ size

unfoldable pub symbol_in : List ℕ → Symbols → (index : ℕ) → Result ElfSymbol Refusal
symbol_in file s i =
    entry_at file s i >>= λ e. name_in file s.strings e.name e.at >>= λ name. Ok (symbol_numbers i e name)

-- the symbol at an index of a section
unfoldable pub symbol_at : List ℕ → (section index : ℕ) → Result ElfSymbol Refusal
symbol_at file k i = file_sections file >>= λ t. symbols_of file t k >>= λ s. symbol_in file s i

abbrev pub refused_symbol : Refusal → ElfSymbol
refused_symbol r =
    record {
      number = reason_number r.reason;
      at = r.place;
      index = 0;
      name = 0;
      name_length = 0;
      value = 0;
      size = 0;
      kind = 0;
      binding = 0;
      visibility = 0;
      section = 0;
    }

abbrev pub symbol_answer : Result ElfSymbol Refusal → ElfSymbol
symbol_answer (Ok s) = s
symbol_answer (Err r) = refused_symbol r
