-- How much stands in the lent lists behind a pass, whether there is room, and what a function adds to them.
use Rattle.std.specs.Prelude.{◌≡◌, ℕ, ◌+◌, ◌*◌, ◌^◌, ◌≤◌, ◌<◌, Bool, List, [], ◌∷◌, length}
use Rattle.format.proofs.Wrote.{Wrote}
use Rattle.format.specs.Lists.{numbers_of, field, function_stride, count, sum_of, most_functions, most_records}
use Rattle.format.specs.declared.Machine.{Machine}
use Rattle.format.specs.declared.Counts.{Counts}
use Rattle.format.specs.Writer.{Part}
use Rattle.lists.specs.declared.Extent.{Extent}
use Rattle.lists.specs.Parts.{where_labelled}
use Rattle.header_keys.specs.Functions.{LandingsReady, LabelsReady}
use Rattle.headers.specs.Kinds.{EncodingFits}
use Rattle.dwarf.specs.declared.Table.{Table}
use Rattle.dwarf.specs.Pieces.{part_in, header_in, header_relocs_in}
use Rattle.header_keys.specs.Inputs.{Inputs, count_in}
use Rattle.dwarf.specs.Parts.{places_in, bytes_in, relocs_in, sites_in, part_behind, parts_to}

-- ---- sizes

-- an empty table
abbrev pub nothing : Table
nothing = record { bytes = 0; relocations = 0; sites = 0 }

-- what stands behind parts
unfoldable pub totals_in : List Part → Table
totals_in ps = record { bytes = length (bytes_in ps); relocations = length (numbers_of (relocs_in ps)); sites = length (sites_in ps) }

-- and behind one more
unfoldable pub grown_by : Table → Part → Table
grown_by t p =
    record {
      bytes = t.bytes + length p.bytes;
      relocations = t.relocations + length (numbers_of p.relocations);
      sites = t.sites + length p.sites;
    }

-- and behind a function's own header
abbrev pub behind_header : (debug : Bool) → Machine → (align : ℕ) → Extent → Table → (rows : List ℕ) → Table
behind_header debug m align e t rows =
    record {
      bytes = t.bytes + length (header_in debug m align t.bytes e rows);
      relocations = t.relocations + length (numbers_of (header_relocs_in debug m t.bytes e));
      sites = t.sites;
    }

-- far from what a machine number holds
pub record Small (t : Table) : Type 0 where
  pub bytes : t.bytes < 2 ^ 32
  pub relocations : t.relocations < 2 ^ 32
  pub sites : t.sites < 2 ^ 32

-- a function behind t can be sized
pub record SizeReady (debug : Bool) (m : Machine) (align : ℕ) (e : Extent) (t : Table) (rows landings pairs : List ℕ) : Type 0 where
  pub landings_ready : LandingsReady e landings
  pub pairs_ready : LabelsReady e pairs
  pub small : Small (grown_by t (part_in debug m align t.bytes 0 t.sites e rows landings pairs))

-- a table's counts behind n header places, in the elements of the lent lists
abbrev pub counts_of : (n : ℕ) → Table → Counts
counts_of n t = record { places = n; bytes = t.bytes; relocations = t.relocations; sites = t.sites }

-- ---- what a list of functions can be at most

-- the rows of function k, where it has relaxing labels
abbrev pub labelled_rows : (fs : List ℕ) → ℕ → ℕ
labelled_rows fs k = where_labelled fs k 3

-- number j of all functions, summed; and their labelled rows
abbrev pub total_of : (fs : List ℕ) → (j : ℕ) → ℕ
total_of fs j = sum_of (λ k. field function_stride fs k j) 0 (count function_stride fs)

abbrev pub labelled_total : (fs : List ℕ) → ℕ
labelled_total fs = sum_of (labelled_rows fs) 0 (count function_stride fs)

-- 96 bytes and 14 for each row (SectionSize), 5 relocations and 2 for each row with labels, 17 bytes of call sites and 40 for each landing
unfoldable pub most_in : (fs : List ℕ) → Table
most_in fs =
    record {
      bytes = 96 * count function_stride fs + 14 * total_of fs 3;
      relocations = 25 * count function_stride fs + 10 * labelled_total fs;
      sites = 17 * count function_stride fs + 40 * total_of fs 5;
    }

-- as question 13 has it
pub record Few (fs : List ℕ) : Type 0 where
  pub functions : count function_stride fs ≤ most_functions
  pub rows : total_of fs 3 ≤ most_records
  pub landings : total_of fs 5 ≤ most_records

-- t is at least what stands behind all functions
pub record Covers (x : Inputs) (t : Table) : Type 0 where
  pub bytes : length (bytes_in (parts_to x (count_in x))) ≤ t.bytes
  pub relocations : length (numbers_of (relocs_in (parts_to x (count_in x)))) ≤ t.relocations
  pub sites : length (sites_in (parts_to x (count_in x))) ≤ t.sites

-- ---- stores

-- a function's own header can be stored behind t, and what is stored then
pub record FrontReady (debug : Bool) (m : Machine) (align : ℕ) (e : Extent) (t : Table) (rows bytes relocs : List ℕ) : Type 0 where
  pub encoding_fits : EncodingFits e
  pub near : t.bytes < 2 ^ 32
  pub bytes_fit : t.bytes + length (header_in debug m align t.bytes e rows) ≤ length bytes
  pub relocs_fit : t.relocations + length (numbers_of (header_relocs_in debug m t.bytes e)) ≤ length relocs

pub record FrontStored (debug : Bool) (m : Machine) (align : ℕ) (e : Extent) (t u : Table) (rows bytes bytes' relocs relocs' : List ℕ) : Type 0 where
  pub bytes_stored : Wrote bytes bytes' t.bytes u.bytes (header_in debug m align t.bytes e rows)
  pub relocs_stored : Wrote relocs relocs' t.relocations u.relocations (numbers_of (header_relocs_in debug m t.bytes e))
  pub behind : u ≡ behind_header debug m align e t rows

-- a function, with its header at `cie`, can be stored behind t
pub record PieceReady (debug : Bool) (m : Machine) (align cie : ℕ) (e : Extent) (t : Table) (rows landings pairs bytes relocs sites : List ℕ) : Type 0 where
  pub landings_ready : LandingsReady e landings
  pub pairs_ready : LabelsReady e pairs
  pub near : cie ≤ t.bytes
  pub small : Small (grown_by t (part_in debug m align t.bytes cie t.sites e rows landings pairs))
  pub bytes_fit : t.bytes + length (part_in debug m align t.bytes cie t.sites e rows landings pairs).bytes ≤ length bytes
  pub relocs_fit : t.relocations + length (numbers_of (part_in debug m align t.bytes cie t.sites e rows landings pairs).relocations) ≤ length relocs
  pub sites_fit : t.sites + length (part_in debug m align t.bytes cie t.sites e rows landings pairs).sites ≤ length sites

-- what a function stores of its part behind t: bytes, relocations and call sites
pub record Stored (p : Part) (t u : Table) (bytes bytes' relocs relocs' sites sites' : List ℕ) : Type 0 where
  pub bytes_stored : Wrote bytes bytes' t.bytes u.bytes p.bytes
  pub relocs_stored : Wrote relocs relocs' t.relocations u.relocations (numbers_of p.relocations)
  pub sites_stored : Wrote sites sites' t.sites u.sites p.sites

-- what function k stores behind t: its header's place and its part
pub record Added (x : Inputs) (k : ℕ) (t u : Table) (places places' bytes bytes' relocs relocs' sites sites' : List ℕ) : Type 0 where
  pub place_stored : Wrote places places' k (k + 1) ((part_behind x k (parts_to x k)).place ∷ [])
  pub rest_stored : Stored (part_behind x k (parts_to x k)) t u bytes bytes' relocs relocs' sites sites'

-- the first k functions have been written to the front of the lists, and t stands behind them
pub record Written (x : Inputs) (k : ℕ) (t : Table) (places places' bytes bytes' relocs relocs' sites sites' : List ℕ) : Type 0 where
  pub places_stored : Wrote places places' 0 k (places_in (parts_to x k))
  pub bytes_stored : Wrote bytes bytes' 0 t.bytes (bytes_in (parts_to x k))
  pub relocs_stored : Wrote relocs relocs' 0 t.relocations (numbers_of (relocs_in (parts_to x k)))
  pub sites_stored : Wrote sites sites' 0 t.sites (sites_in (parts_to x k))

-- the lists have room for the first k functions
pub record Holds (x : Inputs) (k : ℕ) (places bytes relocs sites : List ℕ) : Type 0 where
  pub places_fit : k ≤ length places
  pub bytes_fit : length (bytes_in (parts_to x k)) ≤ length bytes
  pub relocs_fit : length (numbers_of (relocs_in (parts_to x k))) ≤ length relocs
  pub sites_fit : length (sites_in (parts_to x k)) ≤ length sites
