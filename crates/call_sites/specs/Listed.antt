-- All sites of a table in a list of numbers: start, length and pad of each (Itanium C++ ABI, "LSDA", call site record), in table order.
use Rattle.std.specs.Prelude.{ℕ, ◌*◌, ◌≤◌, Bool, List, [], ◌∷◌, ◌++◌, length, leb, Ok, Err}
use Rattle.std.specs.Prelude as code
use Rattle.std.proofs.Math.Option.{Option, none, some}
use Rattle.format.specs.Prelude.{pick, Result, good, bad, onward}
use Rattle.format.specs.Put.{put}
use Rattle.format.specs.Lists.{Landing}
use Rattle.format.specs.CallSiteReader.{sites_at}
use Rattle.call_sites.specs.declared.Listed.{Listed}

abbrev pub site_stride : ℕ
site_stride = 3

unfoldable pub landing_numbers : Landing → List ℕ
landing_numbers l = l.start ∷ l.size ∷ l.pad ∷ []

unfoldable pub all_numbers : List Landing → List ℕ
all_numbers [] = []
all_numbers (l ∷ ls) = landing_numbers l ++ all_numbers ls

-- the sites of the table at a place, which fit a list of `room` numbers: 71 and 72 of the reader, then 54
unfoldable pub list_at : List ℕ → (place room : ℕ) → Result (List Landing)
list_at s place room = onward (sites_at s place) λ ls. pick (leb (site_stride * length ls) room) (good ls) (bad 54)

-- the lent list at exit: the sites at its front and the rest as it was; unchanged on a refusal
unfoldable pub sites_stored : Result (List Landing) → List ℕ → List ℕ
sites_stored (bad n) old = old
sites_stored (good ls) old = put old 0 (all_numbers ls)

-- how many there are, and whether every number of the table is spelled shortest
unfoldable pub listed_of : Result (List Landing) → (shortest : Bool) → code.Result Listed ℕ
listed_of (bad n) shortest = Err n
listed_of (good ls) shortest = Ok (record { sites = length ls; shortest = shortest })

-- ---- the two passes over a table's entries

unfoldable pub counted_of : Option (List Landing) → (shortest : Bool) → code.Result Listed ℕ
counted_of none shortest = Err 72
counted_of (some ls) shortest = Ok (record { sites = length ls; shortest = shortest })

-- a list has room for the sites, which all can be read
abbrev pub HasRoom : Option (List Landing) → List ℕ → Type 0
HasRoom none old = ⊥
HasRoom (some ls) old = site_stride * length ls ≤ length old

unfoldable pub stored_of : Option (List Landing) → List ℕ → List ℕ
stored_of none old = old
stored_of (some ls) old = put old 0 (all_numbers ls)
