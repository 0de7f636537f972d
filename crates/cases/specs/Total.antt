-- How many lists were counted.
use Rattle.std.specs.Prelude.{ℕ, ◌+◌}
use Rattle.cases.specs.declared.Sums.{Sums}

abbrev pub total : Sums → ℕ
total s = s.accepted + s.refused + s.empty + s.different
