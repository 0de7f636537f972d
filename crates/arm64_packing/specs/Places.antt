-- The places of a packed word in the order in which they save, the run that is compared with them, and what holds of the counts of a prologue.
use Rattle.std.specs.Prelude.{List, ℕ, ◌+◌, ◌-◌, ◌^◌, ◌≤◌, ◌<◌}
use Rattle.std.proofs.Math.Option.{Option}
use Rattle.arm64.specs.declared.Code.{Code}
use Rattle.arm64.specs.declared.Packed.{Packed}
use Rattle.arm64.specs.declared.Part.{Part}
use Rattle.arm64.specs.declared.Part.TheVariants.{Prologue, Epilogue}
use Rattle.arm64.specs.Packed.{slot_at}
use Rattle.arm64.specs.Runs.{no_pair, simplify, resolve}
use Rattle.arm64_simple.specs.declared.Run.{Run}
use Rattle.arm64_simple.specs.Saves.{saves}
use Rattle.arm64_packing.specs.declared.Chain.{Chain}
use Rattle.arm64_packing.specs.declared.Chain.TheVariants.{Unchained, Saved, Signed, Recorded}
use Rattle.arm64_packing.specs.declared.Counts.{Counts}

-- place i of the prologue, or what the epilogue has of it: the epilogue's places are the prologue's backwards
unfoldable pub placed : Part → Packed → (i : ℕ) → Option Code
placed Prologue p i = slot_at Prologue p i
placed Epilogue p i = slot_at Epilogue p (18 - i)

-- a run as it is written, its SaveNexts as the pairs that they save
abbrev pub given : List ℕ → Run → List Code
given cs r = resolve no_pair (simplify no_pair (saves cs r))

-- the field CR
abbrev pub chain_number : Chain → ℕ
chain_number Unchained = 0
chain_number Saved = 1
chain_number Signed = 2
chain_number Recorded = 3

-- counts so far as the fields of a word that is no fragment; the frame is in bytes
abbrev pub counted : Counts → Packed
counted n = record { flag = 1; length = n.length; vectors = n.vectors; registers = n.registers; homes = 0; chain = chain_number n.chain; frame = n.frame }

-- counts that one code more does not bring past 64 bits
pub record Low (n : Counts) : Type 0 where
  pub vectors : n.vectors < 2 ^ 32
  pub registers : n.registers < 2 ^ 32
  pub frame : n.frame < 2 ^ 60

-- what one code more adds at most
pub record Counted (n m : Counts) : Type 0 where
  pub vectors : m.vectors ≤ n.vectors + 2
  pub registers : m.registers ≤ n.registers + 2
  pub frame : m.frame < n.frame + 2 ^ 29
