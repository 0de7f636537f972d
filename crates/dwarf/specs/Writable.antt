-- What the questions have made sure of before the passes: of each function, and of the whole.
use Rattle.std.specs.Prelude.{◌≡◌, ℕ, suc, ◌^◌, ◌≤◌, ◌<◌, List, length, get_or}
use Rattle.format.specs.Lists.{numbers_of, most_functions}
use Rattle.header_keys.specs.Functions.{Sound, LandingsReady, LabelsReady, Listed}
use Rattle.headers.specs.Kinds.{EncodingFits}
use Rattle.dwarf.specs.declared.Table.{Table}
use Rattle.dwarf.specs.Tables.{totals_in, most_in, Few, Covers, Holds}
use Rattle.header_keys.specs.Inputs.{Inputs, count_in, extent_in}
use Rattle.dwarf.specs.Parts.{places_in, bytes_in, relocs_in, sites_in, parts_to}

-- function k can be written, and what stands behind it is small
pub record Writable (x : Inputs) (k : ℕ) : Type 0 where
  pub sound : Sound x.machine (extent_in x k) x.rows
  pub encoding_fits : EncodingFits (extent_in x k)
  pub landings_ready : LandingsReady (extent_in x k) x.landings
  pub pairs_ready : LabelsReady (extent_in x k) x.pairs
  pub listed : Listed x.functions x.rows (suc k)
  pub bytes_few : length (bytes_in (parts_to x (suc k))) < 2 ^ 25
  pub relocs_few : length (numbers_of (relocs_in (parts_to x (suc k)))) < 2 ^ 25
  pub sites_few : length (sites_in (parts_to x (suc k))) < 2 ^ 26

pub record Cleared (x : Inputs) : Type 0 where
  pub each_one : (k : ℕ) → k < count_in x → Writable x k
  pub listed : Listed x.functions x.rows (count_in x)
  pub few : count_in x ≤ most_functions
  pub sums : Few x.functions
  pub covered : Covers x (most_in x.functions)

-- function k of n comes next, behind t
pub record Next (x : Inputs) (k n : ℕ) (t : Table) : Type 0 where
  pub writable : Writable x k
  pub counted : n ≡ count_in x
  pub behind : t ≡ totals_in (parts_to x k)

-- and can be written into these lists, of which the first holds the header places of those in front
pub record PartReady (x : Inputs) (k n : ℕ) (t : Table) (places bytes relocs sites : List ℕ) : Type 0 where
  pub coming : Next x k n t
  pub fit : Holds x (suc k) places bytes relocs sites
  pub held : (j : ℕ) → j < k → get_or places j 0 ≡ get_or (places_in (parts_to x k)) j 0
