-- The function symbol at an address (System V gABI, "Symbol Table"). Which of several is nearest the gABI
-- leaves open: one that covers the address by its size goes before one without a size, and the one that
-- begins last before others, as GNU's addr2line and gdb choose.
use Rattle.std.specs.Prelude.{◌≡◌, ◌<◌, ℕ, zero, suc, ◌+◌, ◌-◌, ◌*◌, ◌%◌, List, Bool, true, false, not, ◌&&◌, ◌||◌, Option, Some, None, Result, Ok, Err, nat_le, nat_lt, ◌==◌, if◌then◌else◌}
use Rattle.std.specs.Int.{w16}
use Rattle.elf.specs.declared.refusal.Reason.TheVariants.{NoEntry}
use Rattle.elf.specs.declared.refusal.Refusal.{Refusal}
use Rattle.elf.specs.declared.sections.SectionEntry.{SectionEntry}
use Rattle.elf.specs.declared.sections.Sections.{Sections}
use Rattle.elf.specs.Fields.{field}
use Rattle.elf.specs.Header.{class_of}
use Rattle.elf.specs.Refusals.{refuse, ◌>>=◌}
use Rattle.elf.specs.Sections.{sections_of, entry_at as section_entry}
use Rattle.elf_symbols.specs.declared.functions.Function.{Function}
use Rattle.elf_symbols.specs.declared.functions.Place.{Place}
use Rattle.elf_symbols.specs.declared.symbols.ElfSymbol.{ElfSymbol}
use Rattle.elf_symbols.specs.declared.symbols.SymbolEntry.{SymbolEntry}
use Rattle.elf_symbols.specs.declared.symbols.Symbols.{Symbols}
use Rattle.elf_symbols.specs.Symbols.{kind_of, symbol_size, symbols_of, entry_at, symbol_in}

-- STT_FUNC, and STT_GNU_IFUNC of the GNU tools
abbrev pub is_function : SymbolEntry → Bool
is_function e = (kind_of e == 2) || (kind_of e == 10)

-- where its code begins: on EM_ARM bit 0 of a function's value is the Thumb mark (ELF for the Arm
-- Architecture, "Symbol Values")
abbrev pub start_of : (machine : ℕ) → SymbolEntry → ℕ
start_of machine e = if machine == 40 then e.value - e.value % 2 else e.value

-- a symbol of SHN_UNDEF is in no section
abbrev pub stands_in : (section : ℕ) → SymbolEntry → Bool
stands_in section e = if section == 0 then not (e.section == 0) else e.section == section

abbrev pub section_holds : (address : ℕ) → Result SectionEntry Refusal → Bool
section_holds address (Err r) = false
section_holds address (Ok s) = nat_le s.address address && nat_lt address (s.address + s.size)

unfoldable pub section_covers : List ℕ → Sections → (index address : ℕ) → Bool
section_covers file t i address = section_holds address (section_entry file t i)

-- from its start as many bytes as its size says; where that is 0, up to its section's end
unfoldable pub covers : List ℕ → Sections → SymbolEntry → Place → Bool
covers file t e p =
    if nat_lt p.address (start_of p.machine e) then false
    else if e.size == 0 then section_covers file t e.section p.address
    else nat_lt p.address (start_of p.machine e + e.size)

abbrev pub covering_by :
    List ℕ → Sections → Place → (index : ℕ) → Result SymbolEntry Refusal → Option Function
covering_by file t p i (Err r) = None
covering_by file t p i (Ok e) =
    if is_function e && stands_in p.section e && covers file t e p
    then Some (record { index = i; start = start_of p.machine e; size = e.size })
    else None

-- the symbol at an index, where it is a function's that covers the place
unfoldable pub covering : List ℕ → Sections → Symbols → Place → (index : ℕ) → Option Function
covering file t s p i = covering_by file t p i (entry_at file s i)

-- whether another one is nearer than an old one
abbrev pub is_nearer : (old new : Function) → Bool
is_nearer old new =
    if (old.size == 0) && not (new.size == 0) then true
    else if not (old.size == 0) && (new.size == 0) then false
    else if old.start == new.start then nat_lt new.size old.size
    else nat_lt old.start new.start

abbrev pub nearer : Option Function → Option Function → Option Function
nearer None new = new
nearer (Some old) None = Some old
nearer (Some old) (Some new) = if is_nearer old new then Some new else Some old

-- the nearest of so many, from i on, and of what was found; the first of equals
unfoldable pub nearest : (ℕ → Option Function) → (count i : ℕ) → Option Function → Option Function
nearest p zero i found = found
nearest p (suc n) i found = nearest p n (suc i) (nearer found (p i))

-- one of so many was found, and none of them is nearer; or there is none
abbrev pub IsNearest : (ℕ → Option Function) → (count : ℕ) → Option Function → Type 0
IsNearest p count None = (j : ℕ) → j < count → p j ≡ None
IsNearest p count (Some c) =
    ((i : ℕ) × (i < count) × (p i ≡ Some c))
    × ((j : ℕ) (d : Function) → j < count → p j ≡ Some d → is_nearer c d ≡ false)

abbrev pub FindsNearest : Type 0
FindsNearest = (p : ℕ → Option Function) (count : ℕ) → IsNearest p count (nearest p count 0 None)

-- its symbol; else 107 at the table's end
abbrev pub symbol_or_none : List ℕ → Symbols → Option Function → Result ElfSymbol Refusal
symbol_or_none file s None = refuse NoEntry (s.place + symbol_size s.«class» * s.count)
symbol_or_none file s (Some c) = symbol_in file s c.index

unfoldable pub function_in : List ℕ → Sections → Symbols → Place → Result ElfSymbol Refusal
function_in file t s p = symbol_or_none file s (nearest (covering file t s p) s.count 0 None)

-- of the symbols of the section at an index
unfoldable pub function_at : List ℕ → (table section address : ℕ) → Result ElfSymbol Refusal
function_at file k section address =
    class_of file >>= λ c. sections_of c file >>= λ t. symbols_of file t k >>= λ s.
    function_in file t s (record { machine = field w16 file 18; section = section; address = address })
