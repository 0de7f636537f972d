-- A run's count, and its codes where there is a run.
use Rattle.std.specs.Prelude.{ℕ, List, [], length}
use Rattle.std.proofs.Math.Option.{Option, none, some}
use Rattle.arm64.specs.declared.Code.{Code}

unfoldable pub count_of : Option (List Code) → Option ℕ
count_of none = none
count_of (some cs) = some (length cs)

unfoldable pub codes_in : Option (List Code) → List Code
codes_in none = []
codes_in (some cs) = cs
