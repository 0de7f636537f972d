-- The codes that a run still has.
use Rattle.std.specs.Prelude.{List}
use Rattle.arm64.specs.declared.Code.{Code}
use Rattle.arm64.specs.Reader.{run_at}
use Rattle.arm64_runs.specs.declared.Run.{Run}
use Rattle.arm64_runs.specs.Runs.{codes_in}

abbrev pub codes_left : Run → List Code
codes_left r = codes_in (run_at r.bytes.now r.next)
