-- `Function::prologue_size` meets its contract.
use native.Mathlib.Omega.{arith}
use mathlib.Core.Path.{ap, ◌∙◌}
use lib.ListN.{length}
use Rattle.arm64.specs.Runs.{backwards}
use Rattle.arm64_function.proofs.Own.{prologue_is}
use Rattle.arm64_function.proofs.Function.prologue_size.Goals as goal

pub returns : goal.returns
returns c = (c.size.ensures.0 ∙ ap (λ x. length (backwards x)) (prologue_is c.args.self.now.codes.now c.args.self.now.parts c.prologue.ensures.0), omega (arith, c.size.ensures.1, c.prologue.result.inside.low))
