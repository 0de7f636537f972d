-- Worked examples, computed from the definitions: two entries, the second of 5 bytes with the second field 0xffffffff.
use mathlib.Core.Path.{◌≡◌, refl}
use Prim.Native.Nat.{ℕ}
use mathlib.Core.Bool.{Bool, true, false}
use mathlib.Core.Option.{none, some}
use mathlib.Core.List.{List, [], ◌∷◌, ◌++◌}
use Rattle.format.specs.Prelude.{pick, next, after, bad}
use Rattle.format.specs.Leb.{read_little}
use Rattle.format.specs.Headers.{header_id}
use Rattle.format.specs.Reader.{read_entry, value_or0, second, is_header}
use Rattle.reader.specs.Listing.{shown, entry_read, entry_from, entry_at, joined, listing_f, listing}
use Rattle.reader.specs.declared.cursor.Entry.{Entry}

two : List ℕ
two = 4 ∷ 0 ∷ 0 ∷ 0 ∷ 0 ∷ 0 ∷ 0 ∷ 0 ∷ 5 ∷ 0 ∷ 0 ∷ 0 ∷ 255 ∷ 255 ∷ 255 ∷ 255 ∷ 7 ∷ []

-- what is listed where the first and where the second is a header
seen : (first second : Bool) → List Entry
seen first second =
    record { header = first; place = 0; length = 4; next = 8 } ∷ record { header = second; place = 8; length = 5; next = 17 } ∷ []

in_eh : listing false two ≡ some (seen true false)
unfolding two seen listing listing_f joined entry_at entry_from entry_read shown is_header second value_or0 header_id read_entry read_little next after pick
in_eh = refl

in_debug : listing true two ≡ some (seen false true)
unfolding two seen listing listing_f joined entry_at entry_from entry_read shown is_header second value_or0 header_id read_entry read_little next after pick
in_debug = refl

-- three bytes hold no length, and a length below 4 is none
misfit : (listing false (two ++ 4 ∷ 0 ∷ 0 ∷ []) ≡ none) × (listing false (two ++ 3 ∷ 0 ∷ 0 ∷ 0 ∷ 1 ∷ 2 ∷ 3 ∷ []) ≡ none)
unfolding two listing listing_f joined entry_at entry_from entry_read shown is_header second value_or0 header_id read_entry read_little next after pick
misfit = (refl, refl)

past_the_end : entry_at false two 30 ≡ bad 62
unfolding two entry_at entry_from
past_the_end = refl
