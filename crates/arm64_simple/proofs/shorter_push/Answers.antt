-- `arm64_simple::shorter_push` meets its contract.
use mathlib.Core.Path.{◌∙◌}
use native.Mathlib.Omega.{arith}
use Rattle.arm64_simple.proofs.OneCode.{push_frame, push_other, push_far, push_first}
use Rattle.arm64_simple.proofs.shorter_push.Goals as goal

pub returns-then-c-eq29 : goal.returns-then-c-eq29
returns-then-c-eq29 c = c.new.ensures ∙ push_frame c.args.c c.requires c.if-c-eq29.true

pub returns-then-c-ne19 : goal.returns-then-c-ne19
returns-then-c-ne19 c = push_other c.args.c c.requires c.if-c-eq29.false c.if-c-ne19.true

pub returns-then-c-gt248 : goal.returns-then-c-gt248
returns-then-c-gt248 c = push_far c.args.c c.requires c.if-c-ne19.false c.if-c-gt248.true

pub returns : goal.returns
returns c = c.new-2.ensures ∙ push_first c.args.c c.requires c.if-c-ne19.false (omega (arith, c.if-c-gt248.false))
