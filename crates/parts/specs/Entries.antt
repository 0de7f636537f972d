-- What stands at a position of a section, as numbers.
use Rattle.std.specs.Prelude.{ℕ, List, leb, eqb}
use Rattle.format.specs.Prelude.{pick, Result, good, bad}
use Rattle.format.specs.Answers.{bit}
use Rattle.reader.specs.Listing.{entry_at}
use Rattle.reader.specs.declared.cursor.Entry.{Entry}
use Rattle.parts.specs.declared.EntryRead.{EntryRead}

-- no entry; the position stays
unfoldable pub stopped : (number at : ℕ) → EntryRead
stopped number at = record { number = number; header = 0; place = at; length = 0; next = at }

unfoldable pub entry_numbers : Entry → EntryRead
entry_numbers e = record { number = 0; header = bit e.header; place = e.place; length = e.length; next = e.next }

-- what stands at a position
unfoldable pub standing : (at : ℕ) → Result Entry → EntryRead
standing at (good e) = entry_numbers e
standing at (bad n) = stopped n at

-- 11: the kind is 0 (eh) or 1 (debug); then 0, 61 or 62
unfoldable pub next_entry : (section : List ℕ) (kind at : ℕ) → EntryRead
next_entry section kind at = pick (leb kind 1) (standing at (entry_at (eqb kind 1) section at)) (stopped 11 at)
