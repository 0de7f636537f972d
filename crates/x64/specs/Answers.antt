-- Both writers' answers by the numbers of functions one after another.
use Rattle.std.specs.Prelude.{◌≡◌, ℕ, zero, suc, ◌+◌, ◌*◌, ◌/◌, List, [], map, length}
use Rattle.std.proofs.Math.Option.{Option, none}
use Rattle.format.specs.Lists.{Prologue, field, relocation_stride}
use Rattle.format.specs.Questions.{Question, and_then, no_at}
use Rattle.format.specs.Writer.{joined}
use Rattle.format.specs.X64.{code_no, code_bytes, first_no, slots, info_bytes}
use Rattle.format.specs.declared.Seh.{Seh}
use Rattle.codes.specs.Codes.{yes_or_no, frame_ask}
use Rattle.codes.specs.declared.UnwindCode.{UnwindCode}
use Rattle.x64.specs.declared.Summary.{Summary}
use Rattle.format.specs.Coded.{numbered}
use Rattle.format.proofs.Asked.{Asked}
use Rattle.std.specs.Prelude.{Result, Ok, Err}
use Rattle.std.specs.Result.{result_and}

-- a RUNTIME_FUNCTION: its bytes, its relocations and their numbers
abbrev pub runtime_bytes : ℕ
runtime_bytes = 12

abbrev pub runtime_relocations : ℕ
runtime_relocations = 3

abbrev pub runtime_numbers : ℕ
runtime_numbers = runtime_relocations * relocation_stride

-- what a RUNTIME_FUNCTION names: a symbol and a length; and those of function k
abbrev pub named : (symbol size : ℕ) → Prologue
named symbol size = record { symbol = symbol; size = size; end = 0; codes = [] }

abbrev pub named_at : (stride : ℕ) (fs : List ℕ) → ℕ → Prologue
named_at stride fs k = named (field stride fs k 0) (field stride fs k 1)

-- a code with its offset
abbrev pub pair_of : UnwindCode → ℕ × Seh
pair_of c = (c.offset, c.code)

-- a summary of some codes, and one of those of t and of a code behind them
pub record SummaryOf (cs : List (ℕ × Seh)) (r : Summary) : Type 0 where
  pub codes : numbered r.codes ≡ yes_or_no (first_no code_no cs)
  pub slots : r.slots ≡ slots cs
  pub frames : numbered r.frames ≡ yes_or_no (first_no frame_ask cs)

pub record Summed (t : Summary) (c : ℕ × Seh) (r : Summary) : Type 0 where
  pub codes : numbered r.codes ≡ result_and (numbered t.codes) (yes_or_no (code_no c))
  pub slots : r.slots ≡ t.slots + length (code_bytes c.0 c.1) / 2
  pub frames : numbered r.frames ≡ result_and (numbered t.frames) (yes_or_no (frame_ask c))

-- an answer with the function's position
abbrev pub refused_at : ℕ → Result Unit ℕ → Asked
refused_at k (Ok u) = Ok tt
refused_at k (Err n) = Err (n, k)

-- the first no of n functions from `at` on
unfoldable pub ask_each : (ℕ → Option ℕ) → (at n : ℕ) → Question
ask_each f at zero = none
ask_each f at (suc n) = and_then (no_at at (f at)) (ask_each f (suc at) n)

-- the records of some prologues, one behind the other
unfoldable pub infos_of : List Prologue → List ℕ
infos_of ps = joined (map (λ f. info_bytes f.end f.codes) ps)
