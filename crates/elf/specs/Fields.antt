-- Numbers and pieces at places in a file, the least byte first (System V gABI, "Data Representation" and "ELF
-- Identification").
use Rattle.std.specs.Prelude.{ℕ, List, take, drop, Bool, true, false, if◌then◌else◌}
use Rattle.std.specs.Int.{Width, w32, w64, from_le_bytes}
use Rattle.elf.specs.declared.«class».Class.{Class}
use Rattle.elf.specs.declared.«class».Class.TheVariants.{Bits32, Bits64}

-- the number of a width whose bytes lie from a place on
unfoldable pub field : Width → List ℕ → ℕ → ℕ
field w bytes place = from_le_bytes w (drop place bytes)

-- the bytes from a place on, as many as size
abbrev pub piece : List ℕ → ℕ → ℕ → List ℕ
piece bytes place size = take size (drop place bytes)

abbrev pub is_wide : Class → Bool
is_wide Bits32 = false
is_wide Bits64 = true

-- what differs by the class: ELFCLASS32, and ELFCLASS64
abbrev pub by_class : Class → ℕ → ℕ → ℕ
by_class c narrow wide = if is_wide c then wide else narrow

-- an address, an offset or a size: 4 bytes, and 8
abbrev pub word : Class → List ℕ → ℕ → ℕ
word c bytes place = if is_wide c then field w64 bytes place else field w32 bytes place
