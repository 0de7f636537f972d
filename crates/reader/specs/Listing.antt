-- What stands at a position of a section, and the list that walking from the first position on gives.
use Rattle.std.specs.Prelude.{ℕ, zero, suc, ◌+◌, Bool, List, [], ◌∷◌, length, drop, eqb}
use Rattle.std.proofs.Math.Option.{Option, none, some}
use Rattle.format.specs.Prelude.{pick, Read, after, Result, good, bad}
use Rattle.format.specs.Reader.{read_entry, is_header}
use Rattle.format.specs.Reader as reader
use Rattle.reader.specs.declared.cursor.Entry.{Entry}

-- an entry of the reader's: as many bytes as its length says stand behind the 4 of the length, and the next entry behind those
unfoldable pub shown : (debug : Bool) → reader.Entry → Entry
shown debug e = record { header = is_header debug e; place = e.at; length = length e.body; next = e.at + 4 + length e.body }

-- 61 where no entry fits the rest of the section
unfoldable pub entry_read : (debug : Bool) → ℕ → Read (List ℕ) → Result Entry
entry_read debug p none = bad 61
entry_read debug p (some x) = good (shown debug (record { at = p; body = x.0 }))

-- 62 where the section ends
unfoldable pub entry_from : (debug : Bool) → ℕ → List ℕ → Result Entry
entry_from debug p [] = bad 62
entry_from debug p (b ∷ bs) = entry_read debug p (read_entry (b ∷ bs))

-- what stands at position p of a section; past its end nothing does
unfoldable pub entry_at : (debug : Bool) → List ℕ → ℕ → Result Entry
entry_at debug section p = entry_from debug p (drop p section)

-- ---- the list of a whole section

-- an entry in front of those from the next position on; the end; none where no entry fits
unfoldable pub joined : Result Entry → (ℕ → Option (List Entry)) → Option (List Entry)
joined (good e) more = after (more e.next) λ es. some (e ∷ es)
joined (bad n) more = pick (eqb n 62) (some []) none

-- an entry has a byte at least, so the length is fuel enough
unfoldable pub listing_f : ℕ → (debug : Bool) → List ℕ → ℕ → Option (List Entry)
listing_f zero debug section p = none
listing_f (suc f) debug section p = joined (entry_at debug section p) (listing_f f debug section)

unfoldable pub listing : (debug : Bool) → List ℕ → Option (List Entry)
listing debug section = listing_f (suc (length section)) debug section 0
