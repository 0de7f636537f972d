-- The structures of the System V gABI ("Sections", "Program Header", "Symbol Table"), written field by
-- field in their order.
use Rattle.std.specs.Prelude.{◌≡◌, ℕ, ◌<◌, List, [], ◌∷◌, ◌++◌, length, get_or}
use Rattle.std.specs.Int.{w16, w32, w64, to_le_bytes}
use Rattle.elf.specs.declared.«class».Class.{Class}
use Rattle.elf.specs.declared.«class».Class.TheVariants.{Bits32, Bits64}
use Rattle.elf.specs.declared.sections.SectionEntry.{SectionEntry}
use Rattle.elf.specs.declared.segments.ElfSegment.{ElfSegment}
use Rattle.elf.specs.Sections.{section_size, entry_in}
use Rattle.elf.specs.Segments.{segment_size, segment_in}
use Rattle.elf_symbols.specs.declared.symbols.SymbolEntry.{SymbolEntry}
use Rattle.elf_symbols.specs.Symbols.{symbol_size, entry_in as symbol_entry_in}

abbrev pub AreBytes : List ℕ → Type 0
AreBytes bytes = (i : ℕ) → get_or bytes i 0 < 256

-- Elf32_Word and Elf64_Word, Elf32_Half and Elf64_Half; and what has 4 bytes in one class and 8 in the other
abbrev pub word : ℕ → List ℕ
word n = to_le_bytes w32 n

abbrev pub half : ℕ → List ℕ
half n = to_le_bytes w16 n

abbrev pub wide : Class → ℕ → List ℕ
wide Bits32 n = to_le_bytes w32 n
wide Bits64 n = to_le_bytes w64 n

-- Elf32_Shdr and Elf64_Shdr
abbrev pub section_bytes : Class → SectionEntry → List ℕ
section_bytes c e =
    word e.name ++ word e.kind ++ wide c e.flags ++ wide c e.address ++ wide c e.place ++ wide c e.size
    ++ word e.link ++ word e.info ++ wide c e.align ++ wide c e.entry_size

-- Elf32_Phdr and Elf64_Phdr, whose flags stand elsewhere
abbrev pub segment_bytes : Class → ElfSegment → List ℕ
segment_bytes Bits32 s =
    word s.kind ++ word s.place ++ word s.address ++ word s.physical ++ word s.size ++ word s.memory
    ++ word s.flags ++ word s.align
segment_bytes Bits64 s =
    word s.kind ++ word s.flags ++ to_le_bytes w64 s.place ++ to_le_bytes w64 s.address
    ++ to_le_bytes w64 s.physical ++ to_le_bytes w64 s.size ++ to_le_bytes w64 s.memory ++ to_le_bytes w64 s.align

-- Elf32_Sym and Elf64_Sym
abbrev pub symbol_bytes : Class → SymbolEntry → List ℕ
symbol_bytes Bits32 s =
    word s.name ++ word s.value ++ word s.size ++ (s.info ∷ []) ++ (s.other ∷ []) ++ half s.section
symbol_bytes Bits64 s =
    word s.name ++ (s.info ∷ []) ++ (s.other ∷ []) ++ half s.section ++ to_le_bytes w64 s.value
    ++ to_le_bytes w64 s.size

abbrev pub SectionIsWritten : Type 0
SectionIsWritten = (c : Class) (at : ℕ) (r : List ℕ) → AreBytes r → length r ≡ section_size c →
    section_bytes c (entry_in c at r) ≡ r

abbrev pub SegmentIsWritten : Type 0
SegmentIsWritten = (c : Class) (index size : ℕ) (r : List ℕ) → AreBytes r → length r ≡ segment_size c →
    segment_bytes c (segment_in c index size r) ≡ r

abbrev pub SymbolIsWritten : Type 0
SymbolIsWritten = (c : Class) (at : ℕ) (r : List ℕ) → AreBytes r → length r ≡ symbol_size c →
    symbol_bytes c (symbol_entry_in c at r) ≡ r
