-- `Codes::steps` meets its contract.
use mathlib.Core.Path.{ap}
use Rattle.arm64.specs.Runs.{no_pair}
use Rattle.arm64_simple.specs.Steps.{steps}
use Rattle.arm64_simple.proofs.Loops.{rest_start}
use Rattle.arm64_simple.proofs.Codes.steps.Goals as goal

pub returns : goal.returns
returns c = ap (steps no_pair) (rest_start c.args.self.now.list.now c.args.self.now.run)
