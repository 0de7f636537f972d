-- The codes of a run in its list: as they are saved, and as they are written.
use Rattle.std.specs.Prelude.{List}
use Rattle.arm64.specs.declared.Code.{Code}
use Rattle.arm64.specs.Runs.{no_pair, simplify}
use Rattle.arm64_simple.specs.declared.Codes.{Codes}
use Rattle.arm64_simple.specs.Saves.{saves}

abbrev pub saved_in : Codes → List Code
saved_in r = saves r.list.now r.run

abbrev pub written_in : Codes → List Code
written_in r = simplify no_pair (saved_in r)
