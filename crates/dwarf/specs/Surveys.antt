-- What the pass over the functions makes sure of, where it answers.
use Rattle.std.specs.Prelude.{◌≡◌, ℕ, ◌<◌, List, T, length, Option, Some, None}
use Rattle.std.proofs.Math.Option.{none}
use Rattle.format.specs.Lists.{function_ok_at}
use Rattle.format.specs.Questions.{dwarf_asks}
use Rattle.owners.specs.Chains.{Owned}
use Rattle.records.specs.Stepped.{rows_in}
use Rattle.dwarf.specs.declared.Table.{Table}
use Rattle.dwarf.specs.Asks.{asked_in}
use Rattle.header_keys.specs.Inputs.{Inputs, count_in, extent_in}
use Rattle.dwarf.specs.Parts.{parts_to}
use Rattle.dwarf.specs.Tables.{totals_in}

-- function k passes questions 13 and 21 to 25
pub record PassedAt (x : Inputs) (k : ℕ) : Type 0 where
  pub listed : T (function_ok_at x.functions x.rows x.landings x.pairs k)
  pub asked : dwarf_asks x.section x.machine.word k (asked_in x k) ≡ none

-- the bytes of its rows with the steps between them
abbrev pub rows_size : Inputs → ℕ → ℕ
rows_size x k = length (rows_in x.machine.word 0 x.rows (extent_in x k).rows_at (extent_in x k).rows)

-- an answer of one function, and of all
abbrev pub FunctionSurveyed : (x : Inputs) (k : ℕ) → Option ℕ → Type 0
FunctionSurveyed x k (Some n) = PassedAt x k × (n ≡ rows_size x k)
FunctionSurveyed x k None = Unit {0}

abbrev pub AllSurveyed : (x : Inputs) (owners : List ℕ) → Option Table → Type 0
AllSurveyed x owners (Some t) =
    ((k : ℕ) → k < count_in x → PassedAt x k) × (t ≡ totals_in (parts_to x (count_in x)))
    × Owned x (count_in x) owners
AllSurveyed x owners None = Unit {0}
