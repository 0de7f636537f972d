-- `arm64_simple::resolved` meets its contract.
use mathlib.Core.Path.{◌∙◌}
use Rattle.arm64_simple.proofs.OneCode.{resolved_next, resolved_same}
use Rattle.arm64_simple.proofs.resolved.Goals as goal

pub returns-then-c-eq-SAVE_NEXT : goal.returns-then-c-eq-SAVE_NEXT
returns-then-c-eq-SAVE_NEXT c = c.next_pair.ensures ∙ resolved_next c.args.b c.args.c c.if-c-eq-SAVE_NEXT.true

pub returns : goal.returns
returns c = resolved_same c.args.b c.args.c c.if-c-eq-SAVE_NEXT.false
