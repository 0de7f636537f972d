-- `arm64_simple::pair_in` meets its contract.
use mathlib.Core.Path.{◌∙◌}
use Rattle.arm64_simple.proofs.OneCode.{pair_4, pair_9, pair_1, pair_5, pair_10, pair_none}
use Rattle.arm64_simple.proofs.pair_in.Goals as goal

pub returns-then-c-eq-REGP : goal.returns-then-c-eq-REGP
returns-then-c-eq-REGP c = pair_4 c.args.c c.if-c-eq-REGP.true

pub returns-then-c-eq-FREGP : goal.returns-then-c-eq-FREGP
returns-then-c-eq-FREGP c = pair_9 c.args.c c.if-c-eq-FREGP.true

pub returns-then-c-eq-R19R20X : goal.returns-then-c-eq-R19R20X
returns-then-c-eq-R19R20X c = c.new.ensures ∙ pair_1 c.args.c c.if-c-eq-REGP.false c.if-c-eq-FREGP.false c.if-c-eq-R19R20X.true

pub returns-then-c-eq-REGP_X : goal.returns-then-c-eq-REGP_X
returns-then-c-eq-REGP_X c = c.new-then-c-eq-REGP_X.ensures ∙ pair_5 c.args.c c.if-c-eq-REGP.false c.if-c-eq-FREGP.false c.if-c-eq-R19R20X.false c.if-c-eq-REGP_X.true

pub returns-then-c-eq-FREGP_X : goal.returns-then-c-eq-FREGP_X
returns-then-c-eq-FREGP_X c = c.new-then-c-eq-FREGP_X.ensures ∙ pair_10 c.args.c c.if-c-eq-REGP.false c.if-c-eq-FREGP.false c.if-c-eq-R19R20X.false c.if-c-eq-REGP_X.false c.if-c-eq-FREGP_X.true

pub returns : goal.returns
returns c = c.new-2.ensures ∙ pair_none c.args.c c.if-c-eq-REGP.false c.if-c-eq-FREGP.false c.if-c-eq-R19R20X.false c.if-c-eq-REGP_X.false c.if-c-eq-FREGP_X.false
