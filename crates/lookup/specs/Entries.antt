-- The record that holds an address, and its header (LSB Core, "Exception Frames": PC Begin, PC Range and
-- CIE Pointer): questions 11 and 61 to 63.
use Rattle.std.specs.Prelude.{ℕ, Bool, List, ◌==◌, Ok, Err}
use Rattle.std.specs.Prelude as code
use Rattle.format.specs.Prelude.{pick, Result, good, bad, onward}
use Rattle.format.specs.Coded.{result_of}
use Rattle.format.specs.Lists.{Relocation, relocations_of}
use Rattle.reader.specs.Finds.{two_entries}
use Rattle.reader.specs.declared.section.Section.{Section}
use Rattle.reads.specs.Places.{asked}
use Rattle.reads.specs.Addresses.{holder_in}
use Rattle.lookup.specs.declared.Entries.{Entries}

-- the number of the first record whose function holds pc, its place and that of its header
unfoldable pub entries_in : (debug : Bool) (word : ℕ) → List Relocation → (address pc : ℕ) → List ℕ → Result (ℕ × ℕ × ℕ)
entries_in debug word rs address pc section =
    onward (holder_in debug word address pc section) λ h.
    onward (two_entries debug rs h.0 section) λ x.
    good (h.0, h.1, x.0.at)

-- the same of a section of the code
abbrev pub held_in : Section → (address pc : ℕ) → Result (ℕ × ℕ × ℕ)
held_in s address pc =
    entries_in s.layout.debug s.layout.word (relocations_of s.relocations.now) address pc s.bytes.now

-- as the export answers it
unfoldable pub entries_as : code.Result (ℕ × ℕ × ℕ) ℕ → Entries
entries_as (Ok x) = record { number = 0; k = x.0; «record» = x.1; header = x.2 }
entries_as (Err n) = record { number = n; k = 0; «record» = 0; header = 0 }

-- 11 in front of these
unfoldable pub entries_of : (section relocations : List ℕ) (kind word address pc : ℕ) → Entries
entries_of section relocations kind word address pc =
    entries_as (result_of (pick (asked kind word) (entries_in (kind == 1) word (relocations_of relocations) address pc section) (bad 11)))
