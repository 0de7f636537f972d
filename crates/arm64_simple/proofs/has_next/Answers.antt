-- `arm64_simple::has_next` meets its contract.
use native.Mathlib.Omega.{arith}
use Rattle.arm64_simple.proofs.OneCode.{next_past, next_far, next_4, next_9}
use Rattle.arm64_simple.proofs.has_next.Goals as goal

pub returns-then-b-gt28 : goal.returns-then-b-gt28
returns-then-b-gt28 c = next_past c.args.b c.if-b-gt28.true

pub returns-then-b-gt1023 : goal.returns-then-b-gt1023
returns-then-b-gt1023 c = next_far c.args.b c.if-b-gt1023.true

pub returns-then-b-eq-REGP : goal.returns-then-b-eq-REGP
returns-then-b-eq-REGP c = next_4 c.args.b (omega (arith, c.if-b-gt28.false)) (omega (arith, c.if-b-gt1023.false)) c.if-b-eq-REGP.true

pub returns : goal.returns
returns c = next_9 c.args.b (omega (arith, c.if-b-gt28.false)) (omega (arith, c.if-b-gt1023.false)) c.if-b-eq-REGP.false
