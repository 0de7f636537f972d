-- The writer of eh_frame and then the check on exactly what it wrote.
use Rattle.std.specs.Prelude.{◌≡◌, List, ℕ, ◌<◌, T, get_or, take}
use Rattle.std.proofs.Math.Option.{none}
use Rattle.format.specs.Constants.{elf}
use Rattle.format.specs.declared.Counts.{Counts}
use Rattle.format.specs.Coded.{Outcome}
use Rattle.std.specs.Prelude.{Some, Ok}
use Rattle.format.specs.Lists.{function_stride, count}
use Rattle.format.specs.Questions.{Given, given_function}
use Rattle.format.specs.RowCheck.{row_check_at}
use Rattle.unwind.specs.Together.{bytes_in}
use Rattle.section_check.specs.Check.{check_section}
use Rattle.section_check.specs.declared.Checked.{Checked}

-- the check of as many bytes as the outcome says, with the machine's word
unfoldable pub check_for : (machine : List ℕ) → Outcome → (bytes : List ℕ) → Checked
check_for machine o bytes = check_section (take (bytes_in o) bytes) (get_or machine 0 0)

-- Where the list was accepted for ELF, every function passes the row check and none is relaxed, the section passes.
abbrev pub PassesBack : (format : ℕ) → Given → Outcome → Checked → Type 0
PassesBack format g o r =
    (c : Counts) → format ≡ elf → o ≡ Ok (Some c)
    → ((k : ℕ) → k < count function_stride g.functions → (given_function g k).relaxed ≡ none)
    → ((k : ℕ) → k < count function_stride g.functions → T (row_check_at g.functions g.rows k))
    → (r.number ≡ 0) × (r.«record» ≡ 0)
