-- What a record of a function is made of, by the structs that its writers go by.
use Rattle.std.specs.Prelude.{◌≡◌, ℕ, ◌+◌, ◌-◌, ◌≤◌, List, [], length}
use Rattle.format.specs.Prelude.{each}
use Rattle.format.specs.Headers.{ahead}
use Rattle.format.specs.Lists.{Function, Pair, Relocation, row_at, pair_at, pair_stride, count}
use Rattle.format.specs.Records.{record_bytes, record_relocs}
use Rattle.lists.specs.declared.Labels.{Labels}
use Rattle.lists.specs.Extents.{meant}
use Rattle.header_keys.specs.declared.written.Function as written
use Rattle.header_keys.specs.declared.written.Run.{Run}
use Rattle.header_keys.specs.Functions.{body_of}
use Rattle.records.specs.declared.places.Places.{Places}
use Rattle.records.specs.declared.pair_list.Pairs.{Pairs}
use Rattle.records.specs.Stepped.{rows_in, SteppedReady}
use Rattle.records.specs.Fields.{fields_in}
use Rattle.records.specs.Labels.{steps_in}

-- the rows of a run can be written, and their bytes with the steps between them
abbrev pub RunReady : Run → Type 0
RunReady x = SteppedReady x.word x.rows.now x.at x.n

-- how many rows of a function lead; and the run of them, and that of the others
abbrev pub ahead_in : written.Function → ℕ
ahead_in f = length (ahead (each (row_at f.rows.now) f.extent.rows_at f.extent.rows))

pub record Leading (f : written.Function) (x : Run) : Type 0 where
  pub word : x.word ≡ f.machine.now.word
  pub list : x.rows.now ≡ f.rows.now
  pub from : x.at ≡ f.extent.rows_at
  pub count : x.n ≡ ahead_in f
  pub few : ahead_in f ≤ f.extent.rows

pub record Others (f : written.Function) (x : Run) : Type 0 where
  pub word : x.word ≡ f.machine.now.word
  pub list : x.rows.now ≡ f.rows.now
  pub from : x.at ≡ f.extent.rows_at + ahead_in f
  pub count : x.n ≡ f.extent.rows - ahead_in f
  pub few : ahead_in f ≤ f.extent.rows

abbrev pub run_bytes : Run → List ℕ
run_bytes x = rows_in x.word 0 x.rows.now x.at x.n

-- a function's pairs
abbrev pub pairs_in : Labels → (pairs : List ℕ) → List Pair
pairs_in l pairs = each (pair_at pairs) l.pairs_at l.pairs

abbrev pub pairs_of : Pairs → List Pair
pairs_of x = each (pair_at x.part.now) 0 (count pair_stride x.part.now)

-- the relocations of a run's steps, where its bytes start at `place`
abbrev pub steps_of : Run → (place : ℕ) → List Pair → List Relocation
steps_of x place pairs = steps_in x.word place 0 x.rows.now x.at x.n pairs

-- all rows of a function as a section writes it, with the steps between them
abbrev pub rows_of : written.Function → List ℕ
rows_of f = rows_in f.machine.now.word 0 f.rows.now f.extent.rows_at f.extent.rows

-- its record's fields, whose first is `distance` from the header
abbrev pub fields_of : written.Function → (distance : ℕ) → List ℕ
fields_of f distance = fields_in f.debug f.machine.now.word distance f.extent

-- its record, whose header is at `cie`
abbrev pub record_of : written.Function → (at cie : ℕ) → List ℕ
record_of f at cie = record_bytes f.debug f.machine.now f.align at cie (body_of f.extent f.rows.now)

-- the function that it means, but for its landings
abbrev pub function_meant : written.Function → (pairs : List ℕ) → Function
function_meant f pairs = meant f.extent f.rows.now [] pairs

-- its record's relocations
abbrev pub record_relocs_of : written.Function → Places → (pairs : List ℕ) → List Relocation
record_relocs_of f p pairs = record_relocs f.debug f.machine.now p.at p.cie p.table (function_meant f pairs)
