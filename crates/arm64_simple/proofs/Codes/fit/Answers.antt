-- `Codes::fit` meets its contract.
use Rattle.std.proofs.Common.{rules, ◌∙◌}
use Rattle.std.proofs.lemmas.Iterator.Consumers.{YieldsList-from_first}
use Rattle.std.proofs.lemmas.Iterator.Search.{all_from_yields_List}
use borrow.Author.Tests.{tests}
use Rattle.arm64.specs.Runs.{no_pair}
use Rattle.arm64_simple.specs.Saves.{saves}
use Rattle.arm64_simple.specs.Steps.{steps_left, step_fits}
use Rattle.arm64_simple.proofs.Loops.{fits_all}
use Rattle.arm64_simple.proofs.Codes.fit.Goals as goal

pub returns : goal.returns
returns c =
    all_from_yields_List step_fits c.all.new.self _ _ c.all.ensures.ran (YieldsList-from_first (λ x. x) steps_left {s = c.steps.result} _ c.steps.ensures) (λ x b q k. search (rules, tests))
    ∙ fits_all no_pair (saves c.args.self.now.list.now c.args.self.now.run)
