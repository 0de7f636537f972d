-- The header of an ELF file (System V gABI, "ELF Header" and "ELF Identification").
use Rattle.std.specs.Prelude.{ℕ, List, length, Bool, not, ◌&&◌, ◌||◌, Result, Ok, Err, slice_index, nat_lt, ◌==◌, if◌then◌else◌}
use Rattle.std.specs.Int.{w16, w32}
use Rattle.elf.specs.declared.«class».Class.{Class}
use Rattle.elf.specs.declared.«class».Class.TheVariants.{Bits32, Bits64}
use Rattle.elf.specs.declared.header.ElfHeader.{ElfHeader}
use Rattle.elf.specs.declared.refusal.Reason.TheVariants.{NotElf, Unknown, Outside}
use Rattle.elf.specs.declared.refusal.Refusal.{Refusal}
use Rattle.elf.specs.Fields.{field, word, by_class}
use Rattle.elf.specs.Refusals.{refuse, reason_number, ◌>>=◌}

abbrev pub header_size : Class → ℕ
header_size c = by_class c 52 64

-- EI_MAG0 to EI_MAG3: 0x7f, and the letters ELF
abbrev pub is_magic : List ℕ → Bool
is_magic file =
    (slice_index file 0 == 127) && (slice_index file 1 == 69) && (slice_index file 2 == 76)
    && (slice_index file 3 == 70)

-- EI_CLASS: ELFCLASS32, ELFCLASS64
abbrev pub class_at : ℕ → Result Class Refusal
class_at n = if n == 1 then Ok Bits32 else if n == 2 then Ok Bits64 else refuse Unknown 4

-- EI_DATA is ELFDATA2LSB, EI_VERSION and e_version are EV_CURRENT, and the whole header lies in the file
unfoldable pub class_of : List ℕ → Result Class Refusal
class_of file =
    if nat_lt (length file) 16 || not (is_magic file) then refuse NotElf 0
    else class_at (slice_index file 4) >>= λ c.
    if not (slice_index file 5 == 1) then refuse Unknown 5
    else if not (slice_index file 6 == 1) then refuse Unknown 6
    else if nat_lt (length file) (header_size c) then refuse Outside 0
    else if not (field w32 file 20 == 1) then refuse Unknown 20
    else Ok c

-- e_type, e_machine, e_flags, e_entry
abbrev pub header_of : Class → List ℕ → ElfHeader
header_of c file =
    record {
      number = 0;
      at = 0;
      class_bits = by_class c 32 64;
      kind = field w16 file 16;
      machine = field w16 file 18;
      flags = field w32 file (by_class c 36 48);
      entry = word c file 24;
    }

abbrev pub refused_header : Refusal → ElfHeader
refused_header r =
    record {
      number = reason_number r.reason;
      at = r.place;
      class_bits = 0;
      kind = 0;
      machine = 0;
      flags = 0;
      entry = 0;
    }

abbrev pub header_or : List ℕ → Result Class Refusal → ElfHeader
header_or file (Ok c) = header_of c file
header_or file (Err r) = refused_header r

abbrev pub header_answer : List ℕ → ElfHeader
header_answer file = header_or file (class_of file)
