-- Tables in a file: entries of one size, one after another. Sections, segments, symbols and relocations
-- stand in such tables.
use Rattle.std.specs.Prelude.{◌≡◌, ℕ, zero, suc, ◌+◌, ◌*◌, ◌<◌, ◌≤◌, Bool, List, [], ◌∷◌, length, Option, Some, None, Result, Ok, slice_get, nat_le}
use Rattle.std.specs.List.{concat}
use Rattle.std.specs.Int.{Width, byte_len}
use Rattle.elf.specs.declared.refusal.Reason.TheVariants.{NoEntry}
use Rattle.elf.specs.declared.refusal.Refusal.{Refusal}
use Rattle.elf.specs.declared.table.Table.{Table}
use Rattle.elf.specs.Fields.{field, piece}
use Rattle.elf.specs.Refusals.{refuse}

-- the entries of a table, each as its bytes
unfoldable pub entries : List ℕ → (place size count : ℕ) → List (List ℕ)
entries file place size zero = []
entries file place size (suc n) = piece file place size ∷ entries file (place + size) size n

-- counts times sizes from a place: the table lies in a file of this length
abbrev pub is_inside : Table → ℕ → Bool
is_inside t len = nat_le (t.place + t.size * t.count) len

abbrev pub entry_place : Table → ℕ → ℕ
entry_place t i = t.place + t.size * i

-- an entry that is there; else 107 at the table's end
abbrev pub or_none : Table → Option (List ℕ) → Result (List ℕ) Refusal
or_none t None = refuse NoEntry (t.place + t.size * t.count)
or_none t (Some r) = Ok r

unfoldable pub entry_of : Table → List ℕ → ℕ → Result (List ℕ) Refusal
entry_of t file i = or_none t (slice_get (entries file t.place t.size t.count) i)

-- the entry at an index begins that many sizes behind the table's place
abbrev pub HasEntries : Type 0
HasEntries = (file : List ℕ) (place size count i : ℕ) → i < count →
    slice_get (entries file place size count) i ≡ Some (piece file (place + size * i) size)

abbrev pub HasCount : Type 0
HasCount = (file : List ℕ) (place size count : ℕ) → length (entries file place size count) ≡ count

-- one behind the other the entries are the table's bytes
abbrev pub AreItsBytes : Type 0
AreItsBytes = (file : List ℕ) (place size count : ℕ) →
    concat (entries file place size count) ≡ piece file place (size * count)

-- a field of an entry is a field of the file
abbrev pub KeepsFields : Type 0
KeepsFields = (file : List ℕ) (place size at : ℕ) (w : Width) → 0 < byte_len w → at + byte_len w ≤ size →
    field w (piece file place size) at ≡ field w file (place + at)
