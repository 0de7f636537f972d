-- `arm64_simple::shorter` meets its contract.
use mathlib.Core.Path.{◌∙◌}
use Rattle.arm64_simple.proofs.OneCode.{pair_frame, pair_other, add_none, add_some, any_other}
use Rattle.arm64_simple.proofs.shorter.Goals as goal

pub returns-then-c-eq29 : goal.returns-then-c-eq29
returns-then-c-eq29 c = c.new.ensures ∙ pair_frame c.args.c c.if-c-eq-REGP.true c.if-c-eq29.true

pub returns-then-c-eq-REGP : goal.returns-then-c-eq-REGP
returns-then-c-eq-REGP c = pair_other c.args.c c.if-c-eq-REGP.true c.if-c-eq29.false

pub returns-then-c-eq0 : goal.returns-then-c-eq0
returns-then-c-eq0 c = c.new-then-c-eq0.ensures ∙ add_none c.args.c c.if-c-eq-ADD_FP.true c.if-c-eq0.true

pub returns-then-c-eq-ADD_FP : goal.returns-then-c-eq-ADD_FP
returns-then-c-eq-ADD_FP c = add_some c.args.c c.if-c-eq-ADD_FP.true c.if-c-eq0.false

pub returns : goal.returns
returns c = any_other c.args.c c.if-c-eq-REGP.false c.if-c-eq-REGP_X.false c.if-c-eq-ADD_FP.false
