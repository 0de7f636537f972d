-- `Epilogue::size` meets its contract.
use native.Mathlib.Omega.{arith}
use mathlib.Core.Path.{ap, ◌∙◌}
use lib.ListN.{length}
use Rattle.arm64.specs.Runs.{backwards}
use Rattle.arm64_function.proofs.Own.{run_is}
use Rattle.arm64_function.proofs.Epilogue.size.Goals as goal

pub returns : goal.returns
returns c = (c.size.ensures.0 ∙ ap (λ x. length (backwards x)) (run_is c.args.self.now.function.epilogues.now c.args.self.now.function.codes.now c.args.self.now.i c.run.ensures.0), omega (arith, c.size.ensures.1, c.run.result.inside.low))
