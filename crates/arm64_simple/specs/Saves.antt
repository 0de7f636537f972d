-- The codes of a run in the order in which they save, out of a list of numbers.
use Rattle.std.specs.Prelude.{ℕ, ◌+◌, ◌-◌, ◌*◌, ◌^◌, ◌≤◌, ◌<◌, List, length}
use Rattle.format.specs.Prelude.{each}
use Rattle.arm64.specs.declared.Code.{Code}
use Rattle.arm64.specs.declared.Part.{Part}
use Rattle.arm64.specs.declared.Part.TheVariants.{Prologue, Epilogue}
use Rattle.arm64.specs.Lists.{numbered_code}
use Rattle.arm64_simple.specs.declared.Run.{Run}

-- the run's codes stand in the list
pub record Inside (cs : List ℕ) (r : Run) : Type 0 where
  pub room : 3 * (r.at + r.count) ≤ length cs
  pub low : r.at + r.count < 2 ^ 60

-- the place of the j-th code that is saved
abbrev pub place_in : Part → Run → ℕ → ℕ
place_in Prologue r j = r.at + j
place_in Epilogue r j = r.at + (r.count - (j + 1))

unfoldable pub place_of : Run → ℕ → ℕ
place_of r j = place_in r.part r j

unfoldable pub saved_at : List ℕ → Run → ℕ → Code
saved_at cs r j = numbered_code cs (place_of r j)

unfoldable pub saves : List ℕ → Run → List Code
saves cs r = each (saved_at cs r) 0 r.count
