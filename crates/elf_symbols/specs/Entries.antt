-- A section as a table of entries of one size (System V gABI, "Sections": sh_entsize).
use Rattle.std.specs.Prelude.{ℕ, ◌+◌, ◌/◌, ◌%◌, List, not, Result, Ok, ◌==◌, if◌then◌else◌}
use Rattle.elf.specs.declared.refusal.Reason.TheVariants.{EntrySize}
use Rattle.elf.specs.declared.refusal.Refusal.{Refusal}
use Rattle.elf.specs.declared.sections.SectionEntry.{SectionEntry}
use Rattle.elf.specs.declared.sections.Sections.{Sections}
use Rattle.elf.specs.declared.table.Table.{Table}
use Rattle.elf.specs.Fields.{by_class}
use Rattle.elf.specs.Refusals.{refuse, ◌>>=◌}
use Rattle.elf.specs.Section.{plain_bytes_of}

-- sh_entsize has the size, and sh_size is a multiple of it
unfoldable pub entries_in : List ℕ → Sections → SectionEntry → (size : ℕ) → Result Table Refusal
entries_in file t e size =
    plain_bytes_of file t e >>= λ s.
    if not (e.entry_size == size) then refuse EntrySize (e.at + by_class t.«class» 36 56)
    else if not (s.length % size == 0) then refuse EntrySize (e.at + by_class t.«class» 20 32)
    else Ok (record { place = s.place; size = size; count = s.length / size })
