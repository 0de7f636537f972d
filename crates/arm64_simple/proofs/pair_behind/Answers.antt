-- `arm64_simple::pair_behind` meets its contract.
use mathlib.Core.Path.{ap, ◌∙◌}
use Rattle.arm64.specs.Runs.{pair_in, pair_behind}
use Rattle.arm64_simple.proofs.pair_behind.Goals as goal

pub returns : goal.returns
unfolding pair_behind
returns c = c.pair_in.ensures ∙ ap pair_in c.resolved.ensures
