-- `arm64_simple::simple` meets its contract.
use mathlib.Core.Path.{ap, ◌∙◌}
use Rattle.arm64.specs.Runs.{next_or, simple}
use Rattle.arm64_simple.proofs.simple.Goals as goal

pub returns : goal.returns
unfolding simple
returns c = c.next_or.ensures ∙ ap (next_or c.args.b) c.shorter.ensures
