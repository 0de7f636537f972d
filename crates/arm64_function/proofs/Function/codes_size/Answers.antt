-- `Function::codes_size` meets its contract.
use Rattle.std.proofs.Common.{◌≡◌, rules}
use mathlib.Core.Path.{ap, ◌∙◌}
use borrow.Author.Tests.{tests}
use Rattle.format.specs.Prelude.{pick}
use Rattle.arm64_function.specs.Own.{held_to}
use native.Mathlib.Omega.{arith}
use Rattle.arm64_function.proofs.Own.{summing_start, summing_turn, summing_high, summing_all}
use Rattle.arm64_function.proofs.Function.codes_size.Goals as goal

pub loop-i-init : goal.loop-i-init
loop-i-init c = summing_start c.prologue_size-size.ensures.0

pub returns-then-size-gt-MOST_CODES : goal.returns-then-size-gt-MOST_CODES
returns-then-size-gt-MOST_CODES c = summing_high c.loop-i.invariant c.if-size-gt-MOST_CODES.true

pub epilogue-requires : goal.epilogue-requires
epilogue-requires c = (c.loop-i.invariant.low, c.loop-i-test.true)

pub overflow_add-size-in-loop-i : goal.overflow_add-size-in-loop-i
overflow_add-size-in-loop-i c = omega (arith, c.if-size-gt-MOST_CODES.false, c.own_size-size.ensures.1)

pub loop-i-preserved : goal.loop-i-preserved
loop-i-preserved c = summing_turn c.loop-i.invariant c.loop-i-test.true (rw (c.epilogue.ensures.0, c.epilogue.ensures.1) at c.own_size-size.ensures.0)

pub returns : goal.returns
unfolding held_to pick
returns c = let e : c.then_some.result ≡ held_to c.loop-i.size = search (tests, rules) in e ∙ ap held_to (summing_all c.loop-i.invariant (omega (arith, c.loop-i-test.false)))
