-- The places of all records and of their headers, and a record located by such places: no pass over the section (questions 11, 61, 63, 64; 54 where the lent list is too short).
use Rattle.std.specs.Prelude.{ℕ, ◌-◌, ◌/◌, ◌^◌, Bool, List, [], ◌∷◌, length, ◌==◌, nat_le, nat_lt, Ok, Err}
use Rattle.std.specs.Prelude as code
use Rattle.format.specs.Coded.{result_of}
use Rattle.std.proofs.Math.Option.{Option, none, some}
use Rattle.format.specs.Prelude.{pick, Result, good, bad, onward, or_else}
use Rattle.format.specs.Put.{put}
use Rattle.format.specs.Lists.{Relocation, relocations_of}
use Rattle.format.specs.Reader.{Entry, records, entries}
use Rattle.reads.specs.Places.{asked, located_as, locate_entries, header_of}
use Rattle.reads.specs.Addresses.{entry_at}
use Rattle.reads.specs.declared.Located.{Located}
use Rattle.reads.specs.declared.Indexed.{Indexed}

-- the place of no header
abbrev pub nowhere : ℕ
nowhere = 2 ^ 64 - 1

unfoldable pub place_or : Option Entry → ℕ
place_or none = nowhere
place_or (some h) = h.at

-- two numbers for each record: its place, and its header's among the entries es
unfoldable pub index_from : (debug : Bool) → List Relocation → (es rest : List Entry) → List ℕ
index_from debug rs es [] = []
index_from debug rs es (e ∷ rest) = e.at ∷ place_or (header_of debug rs es e) ∷ index_from debug rs es rest

unfoldable pub index_of : (debug : Bool) → List Relocation → List Entry → List ℕ
index_of debug rs es = index_from debug rs es (records debug es)

-- 61, then 54
unfoldable pub index_in : (debug : Bool) → List Relocation → (room : ℕ) → List ℕ → Result (List ℕ)
index_in debug rs room section =
    onward (or_else (entries section) 61) λ es. pick (nat_le (length (index_of debug rs es)) room) (good (index_of debug rs es)) (bad 54)

-- 11 in front of these
unfoldable pub index : (section relocations : List ℕ) (kind word room : ℕ) → Result (List ℕ)
index section relocations kind word room =
    pick (asked kind word) (index_in (kind == 1) (relocations_of relocations) room section) (bad 11)

-- how many records these are
unfoldable pub records_of : Result (List ℕ) → Result ℕ
records_of (good ns) = good (length ns / 2)
records_of (bad n) = bad n

-- as the export answers it
unfoldable pub indexed_as : code.Result ℕ ℕ → Indexed
indexed_as (Ok n) = record { number = 0; records = n }
indexed_as (Err n) = record { number = n; records = 0 }

-- the lent list at exit: the numbers at its front and the rest as it was; on a refusal it is unchanged
unfoldable pub list_after : Result (List ℕ) → List ℕ → List ℕ
list_after (good ns) old = put old 0 ns
list_after (bad n) old = old

-- ---- a record by its place and its header's

-- 63: a header stands in front of its record; then 64
unfoldable pub locate_in : (debug : Bool) (word : ℕ) → List ℕ → (place header : ℕ) → Result Located
locate_in debug word section place header =
    pick (nat_lt header place)
    (onward (or_else (entry_at section header) 64) λ h. onward (or_else (entry_at section place) 64) λ e. locate_entries debug word h e)
    (bad 63)

unfoldable pub locate_at : (section : List ℕ) (kind word place header : ℕ) → Located
locate_at section kind word place header = located_as (result_of (pick (asked kind word) (locate_in (kind == 1) word section place header) (bad 11)))
