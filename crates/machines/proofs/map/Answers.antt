-- `machines::map` meets its contract.
use native.Mathlib.Omega.{arith}
use borrow.Author.Rules.{rules}
use Rattle.machines.proofs.Stores.{start, turn, ended}
use Rattle.machines.proofs.map.Goals as goal

pub loop-i-init : goal.loop-i-init
loop-i-init c = (start _ _ _, search rules)

pub loop-i-preserved : goal.loop-i-preserved
loop-i-preserved c = let i = c.loop-i.invariant in (rw c.from.ensures (turn i.0 (omega (arith, i.1, c.loop-i-test.true))), i.1)

pub returns : goal.returns
returns c = let i = c.loop-i.invariant in record { past = omega (arith, i.1); stored = ended i.0 (omega (arith, i.1, c.loop-i-test.false)) }
