-- `Steps`' `next` meets its contract.
use Rattle.std.proofs.Common.{rules}
use mathlib.Core.Path.{ap}
use lib.ListN.{length}
use Rattle.arm64_simple.proofs.Loops.{steps_none, steps_next}
use Rattle.arm64_simple.proofs.StepsIterator.next.Goals as goal

pub returns-then-self-clause-steps : goal.returns-then-self-clause-steps
returns-then-self-clause-steps c = (steps_none _ _ _ c.if-self.true, steps_none _ _ _ c.if-self.true)

pub returns-clause-steps : goal.returns-clause-steps
returns-clause-steps c = steps_next _ _ c.args.self.now.within c.if-self.false c.saved_at-given.ensures c.simple-written.ensures c.pair_behind-self.ensures

pub returns-clause-goes : goal.returns-clause-goes
returns-clause-goes c =
    let e = ap length (steps_next _ _ c.args.self.now.within c.if-self.false c.saved_at-given.ensures c.simple-written.ensures c.pair_behind-self.ensures) in search (rules, e)
