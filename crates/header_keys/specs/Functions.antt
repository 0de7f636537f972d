-- A function's record as a section takes it, and what the questions have made sure of before anything of it is written.
use Rattle.std.specs.Prelude.{ℕ, ◌+◌, ◌*◌, ◌≤◌, ◌<◌, List, [], T, length, None, IfSome}
use Rattle.format.specs.declared.Machine.{Machine}
use Rattle.format.specs.declared.Section.{Section}
use Rattle.format.specs.declared.Section.TheVariants.{Elf, Debug}
use Rattle.format.specs.Lists.{Function, field, function_stride, row_stride, landing_stride, pair_stride, count, row_ok_at, all_in, most_records}
use Rattle.format.specs.Headers.{Key, key_of}
use Rattle.format.specs.Questions.{encodings_ok}
use Rattle.format.proofs.Fits.{MachineFits}
use Rattle.format.proofs.WalkBack.{RowsAtOk}
use Rattle.lists.specs.declared.Labels.{Labels}
use Rattle.lists.specs.declared.Extent.{Extent}
use Rattle.lists.specs.Extents.{meant}

-- the record without its landings and its personality
unfoldable pub without : Extent → Extent
without e =
    record {
      symbol = e.symbol;
      length = e.length;
      rows_at = e.rows_at;
      rows = e.rows;
      landings_at = e.landings_at;
      landings = 0;
      simple = e.simple;
      signal = e.signal;
      personality = None;
      relaxed = e.relaxed;
    }

-- what a section takes of a function's record (`taken` of the definitions)
unfoldable pub taken_in : Section → Extent → Extent
taken_in Elf e = e
taken_in Debug e = without e

-- the function without its landings and pairs: all that header and record bytes depend on
abbrev pub body_of : Extent → (rows : List ℕ) → Function
body_of e rows = meant e rows [] []

abbrev pub key_in : Machine → Extent → (rows : List ℕ) → Key
key_in m e rows = key_of m (body_of e rows)

-- n rows from `at` on lie inside the list and are rows
pub record RowsReady (rows : List ℕ) (at n : ℕ) : Type 0 where
  pub inside : at + n ≤ count row_stride rows
  pub ok : T (all_in (row_ok_at rows) at n)

-- a function whose questions were answered by yes, as far as its header and record go
pub record Sound (m : Machine) (e : Extent) (rows : List ℕ) : Type 0 where
  pub machine : MachineFits m
  pub ready : RowsReady rows e.rows_at e.rows
  pub few : e.rows ≤ most_records
  pub lines : RowsAtOk m.word 0 (body_of e rows).rows
  pub encodings : T (encodings_ok m.word (body_of e rows).landings (body_of e rows).named)

-- as far as its call sites go
pub record LandingsReady (e : Extent) (landings : List ℕ) : Type 0 where
  pub inside : e.landings_at + e.landings ≤ count landing_stride landings
  pub few : e.landings ≤ most_records

-- as far as relaxing labels go, and where a function has them
pub record PairsReady (l : Labels) (pairs : List ℕ) : Type 0 where
  pub inside : l.pairs_at + l.pairs ≤ count pair_stride pairs
  pub few : l.pairs ≤ most_records

abbrev pub LabelsReady : Extent → (pairs : List ℕ) → Type 0
LabelsReady e pairs = IfSome e.relaxed (λ l. PairsReady l pairs)

-- the first n records of a list of functions can be read, and their rows
pub record Listed (fs rows : List ℕ) (n : ℕ) : Type 0 where
  pub within : function_stride * n ≤ length fs
  pub rows_ready : (j : ℕ) → j < n → RowsReady rows (field function_stride fs j 2) (field function_stride fs j 3)
