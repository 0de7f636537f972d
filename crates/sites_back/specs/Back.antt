-- Call sites written and read back: where a record says that its table is, and what is read there.
use Rattle.std.specs.Prelude.{◌≡◌, ◌≢◌, ℕ, ◌+◌, ◌-◌, ◌*◌, ◌^◌, ◌≤◌, ◌<◌, true, false, List, [], ◌∷◌, ◌++◌, length, take, eqb, Ok}
use Rattle.std.specs.Prelude as code
use Rattle.std.proofs.Math.Option.{Option, none, some}
use Rattle.std.proofs.Math.ListN.{get_elem?}
use Rattle.format.specs.Prelude.{after, first, good}
use Rattle.format.specs.Coded.{Outcome}
use Rattle.format.specs.Lists.{Landing, Relocation, function_stride, relocation_stride, count, relocations_of}
use Rattle.format.specs.Constants.{except_table}
use Rattle.format.specs.Put.{put}
use Rattle.format.specs.Writer.{Written}
use Rattle.format.specs.Questions.{Given, Answer, accepted, given_function}
use Rattle.format.specs.Reader.{Entry, entries, records, first_addend}
use Rattle.format.specs.CallSiteReader.{sites_at, site_at, covers, sites_short, site_numbers, marked_site}
use Rattle.reader.specs.Spans.{listed}
use Rattle.unwind.specs.Together.{bytes_in, relocs_in}
use Rattle.call_sites.specs.declared.Listed.{Listed}
use Rattle.call_sites.specs.Listed.{site_stride, all_numbers, list_at, listed_of}

-- a landing whose end has 64 bits; its pad, a number of a list, always has
pub record SiteFits (l : Landing) : Type 0 where
  pub end : l.start + l.size < 2 ^ 64
  pub pad : l.pad < 2 ^ 64

-- each landing is one
abbrev pub SitesFit : List Landing → Type 0
SitesFit [] = Unit {0}
SitesFit (l ∷ ls) = SiteFits l × SitesFit ls

-- A record's pointer to call sites stands 17 bytes behind its start: 4 each for the entry's length, the distance, the function's place and
-- its length, and one for the augmentation's length (LSB, .eh_frame).
abbrev pub pointer_field : ℕ
pointer_field = 17

-- the addend of the relocation of record k's pointer to call sites
unfoldable pub table_place : (section : List ℕ) → List Relocation → (k : ℕ) → Option ℕ
table_place section rs k = after (get_elem? (records false (listed (entries section))) k) λ e. first_addend (e.at + pointer_field) rs

-- a place outside all bytes where there is none
unfoldable pub place_in : Option ℕ → ℕ
place_in none = 2 ^ 64 - 1
place_in (some place) = place

-- the place in as much of a section and its relocations as an outcome says were written
unfoldable pub written_place : Outcome → (bytes relocations : List ℕ) → (k : ℕ) → ℕ
written_place o bytes relocations k =
    place_in (table_place (take (bytes_in o) bytes) (relocations_of (take (relocation_stride * relocs_in o) relocations)) k)

-- the buffers hold as much as the outcome says
abbrev pub WasWritten : Outcome → (bytes relocations : List ℕ) → Type 0
WasWritten o bytes relocations = (bytes_in o ≤ length bytes) × (relocation_stride * relocs_in o ≤ length relocations)

-- what the reader of call sites answers of the call-site bytes at a place, as numbers
unfoldable pub site_answer : (sites : List ℕ) → (place offset : ℕ) → List ℕ
site_answer sites place offset = marked_site (site_at sites place offset) (sites_short sites place)

-- what is answered where all sites are listed, in a list of `room` numbers
unfoldable pub list_answer : (sites : List ℕ) → (place room : ℕ) → code.Result Listed ℕ
list_answer sites place room = listed_of (list_at sites place room) (sites_short sites place)

-- record k of a section has a pointer to the symbol of the call sites, and what is read there are the landings of function k, in numbers
-- that are spelled shortest, whatever stands behind the call sites
pub record TableOf (w : Written) (k : ℕ) (ls : List Landing) : Type 0 where
  pub entry : Entry
  pub is_record : get_elem? (records false (listed (entries w.bytes))) k ≡ some entry
  pub pointer : Relocation
  pub is_first : first (λ r. eqb r.place (entry.at + pointer_field)) w.relocations ≡ some pointer
  pub to_sites : pointer.symbol ≡ except_table
  pub reads : (tail : List ℕ) → sites_at (w.sites ++ tail) pointer.addend ≡ good ls
  pub shortest : (tail : List ℕ) → sites_short (w.sites ++ tail) pointer.addend ≡ true

-- what is read, as numbers, at the place that function k's record names: the first landing of function k that covers the offset, or none,
-- and last that the table's numbers are spelled shortest
abbrev pub ReadBack : Given → Answer → (k offset : ℕ) → List ℕ → Type 0
ReadBack g a k offset ns =
    (w : Written) → a ≡ accepted w → k < count function_stride g.functions → (given_function g k).landings ≢ []
    → SitesFit (given_function g k).landings → ns ≡ site_numbers (first (covers offset) (given_function g k).landings) ++ (1 ∷ [])

-- all sites of function k's table: its landings in order, in a lent list that has room for them, and their numbers spelled shortest
abbrev pub LandingsBack : Given → Answer → (k : ℕ) → code.Result Listed ℕ → (old new : List ℕ) → Type 0
LandingsBack g a k r old new =
    let ls : List Landing = (given_function g k).landings in
    (w : Written) → a ≡ accepted w → k < count function_stride g.functions → ls ≢ [] → SitesFit ls → site_stride * length ls ≤ length old
    → (r ≡ Ok (record { sites = length ls; shortest = true })) × (new ≡ put old 0 (all_numbers ls))
