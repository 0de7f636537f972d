-- Demand 3 (document 01, "What is asked"): what a writer answers and leaves in its buffer of bytes, and what the reader answers of that, against the functions' rows. Nothing here says what a writer writes or how the reader reads.
use Rattle.std.specs.Prelude.{◌≡◌, ℕ, ◌<◌, Bool, List, T, eqb, take}
use Rattle.std.proofs.Math.Option.{none, some}
use Rattle.format.specs.Constants.{elf}
use Rattle.format.specs.declared.Counts.{Counts}
use Rattle.format.specs.Coded.{Outcome}
use Rattle.std.specs.Prelude.{Some, Ok}
use Rattle.format.specs.Coded.{Reading}
use Rattle.format.specs.Machine.{machine_of}
use Rattle.format.specs.Questions.{Given, given_function}
use Rattle.format.specs.Rules.{rules_at, seen}
use Rattle.format.specs.RowCheck.{row_check_at}
use Rattle.format.specs.Reader.{Entry, entries}

-- the output is DWARF: the table and debug_frame of ELF
unfoldable pub dwarf_output : (format : ℕ) → Bool
dwarf_output format = eqb format elf

-- The entries' lengths tile what was written. And where function k has no relaxing labels and passes the row check, and p is below its
-- length, the reading is what the rules at p, by the machine, simple mark and rows handed in, say of register q.
pub record Demand (g : Given) (k q p : ℕ) (written : List ℕ) (reading : Reading) : Type 0 where
  pub tiles : (es : List Entry) × (entries written ≡ some es)
  pub rules : (given_function g k).relaxed ≡ none → T (row_check_at g.functions g.rows k) → p < (given_function g k).size
      → reading ≡ seen q (rules_at (machine_of g.machine) (given_function g k) p)

-- where the lists were accepted for DWARF output: the section is as many bytes of the buffer as the outcome says
abbrev pub Demanded : (format : ℕ) (g : Given) (o : Outcome) (bytes : List ℕ) (k q p : ℕ) (reading : Reading) → Type 0
Demanded format g o bytes k q p reading =
    (c : Counts) → T (dwarf_output format) → o ≡ Ok (Some c) → Demand g k q p (take c.bytes bytes) reading
