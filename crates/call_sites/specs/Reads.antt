-- What the reader's functions promise: an entry at a position, a table's entries, and the first of them that covers an offset.
use Rattle.std.specs.Prelude.{◌≡◌, ℕ, ◌+◌, ◌-◌, ◌≤◌, ◌<◌, Bool, false, ◌&&◌, List, [], ◌∷◌, length, take, drop, Some, None, Ok, Err}
use Rattle.std.specs.Prelude as code
use Rattle.std.proofs.Math.Option.{Option, none, some}
use Rattle.format.specs.Prelude.{Result, good, bad, onward, or_else, first}
use Rattle.format.specs.Lists.{Landing}
use Rattle.format.specs.Answers.{bit}
use Rattle.format.specs.Shortest.{every_short_f, every_short}
use Rattle.format.specs.CallSiteReader.{site_of, read_site, read_sites, read_table, covers, sites_short}
use Rattle.operations.specs.declared.fields.Position.{Position}
use Rattle.call_sites.specs.declared.Entry.{Entry}
use Rattle.call_sites.specs.declared.Table.{Table}
use Rattle.call_sites.specs.declared.Entries.{Entries}
use Rattle.call_sites.specs.declared.Found.{Found}
use Rattle.call_sites.specs.declared.Site.{Site}

-- ---- one entry

abbrev pub landing_of : Entry → Landing
landing_of e = site_of e.start e.length e.pad

-- whether the numbers in front of a position are spelled shortest, and those behind it
abbrev pub short_from : List ℕ → Position → (fuel : ℕ) → Bool
short_from s p fuel = p.shortest && every_short_f fuel (drop p.at s)

-- what stands at p is an entry of four numbers, and q is the position past it
pub record EntryThere (s : List ℕ) (p : Position) (l : Landing) (q : Position) : Type 0 where
  pub ahead : p.at + 4 ≤ q.at
  pub inside : q.at ≤ length s
  pub reads : read_site (drop p.at s) ≡ some (l, drop q.at s)
  pub marks : (fuel : ℕ) → 4 ≤ fuel → short_from s p fuel ≡ short_from s q (fuel - 4)

abbrev pub EntrySays : List ℕ → Position → code.Option (Entry × Position) → Type 0
EntrySays s p (Some x) = EntryThere s p (landing_of x.0) x.1
EntrySays s p None = read_site (drop p.at s) ≡ none

-- ---- a table

pub record TableThere (s : List ℕ) (p : ℕ) (entries : List ℕ) (length_shortest : Bool) : Type 0 where
  pub reads : read_table (drop p s) ≡ some entries
  pub mark : sites_short s p ≡ (length_shortest && every_short entries)

abbrev pub TableSays : List ℕ → ℕ → code.Option Table → Type 0
TableSays s p (Some t) = TableThere s p t.entries.now t.shortest
TableSays s p None = read_table (drop p s) ≡ none

-- ---- the entries, from the front on, where the length in front of them is spelled shortest or not

abbrev pub marked_start : (shortest : Bool) → Position
marked_start shortest = record { at = 0; shortest = shortest }

-- what `next` gives of some entries: what stands at the position, and then the position past it; none at the entries' end
abbrev pub Behind : Entries → code.Option (Entry × Position) → Entries → Type 0
Behind x None y = Unit
Behind x (Some e) y = (y.bytes.now ≡ x.bytes.now) × (y.at ≡ e.1)

abbrev pub GivesEntry : Entries → code.Option (code.Option (Entry × Position)) → Entries → Type 0
GivesEntry x None y = length x.bytes.now ≤ x.at.at
GivesEntry x (Some r) y = (x.at.at < length x.bytes.now) × EntrySays x.bytes.now x.at r × Behind x r y

-- ---- the entry that covers an offset

abbrev pub entry_of : Option Landing → code.Option Entry
entry_of none = None
entry_of (some l) = Some (record { start = l.start; length = l.size; pad = l.pad })

abbrev pub read_of : Result (Option Landing) → code.Result (code.Option Entry) ℕ
read_of (good o) = Ok (entry_of o)
read_of (bad n) = Err n

-- the first entry of those that the bytes of a table make that covers the offset
unfoldable pub first_covering : (offset : ℕ) → List ℕ → code.Result (code.Option Entry) ℕ
first_covering offset bs = read_of (onward (or_else (read_sites bs) 72) λ ls. good (first (covers offset) ls))

-- with whether every number of the table is spelled shortest
abbrev pub with_mark : code.Result (code.Option Entry) ℕ → (shortest : Bool) → code.Result Found ℕ
with_mark (Ok e) shortest = Ok (record { entry = e; shortest = shortest })
with_mark (Err n) shortest = Err n

-- ---- the answer

-- its numbers, in the order of include/dekvoz.h
abbrev pub marked_of : Site → List ℕ
marked_of r = r.number ∷ r.found ∷ r.start ∷ r.length ∷ r.pad ∷ r.shortest ∷ []

unfoldable pub answer_of : code.Result (code.Option Entry) ℕ → (shortest : Bool) → List ℕ
answer_of (Err n) shortest = n ∷ 0 ∷ 0 ∷ 0 ∷ 0 ∷ 0 ∷ []
answer_of (Ok None) shortest = 0 ∷ 0 ∷ 0 ∷ 0 ∷ 0 ∷ bit shortest ∷ []
answer_of (Ok (Some e)) shortest = 0 ∷ 1 ∷ e.start ∷ e.length ∷ e.pad ∷ bit shortest ∷ []

abbrev pub found_numbers : code.Result Found ℕ → List ℕ
found_numbers (Ok f) = answer_of (Ok f.entry) f.shortest
found_numbers (Err n) = answer_of (Err n) false
