-- `lists::machine_of` meets its contract.
use native.Mathlib.Omega.{arith}
use Rattle.format.specs.Machine.{machine_of}
use Rattle.lists.proofs.Machines.{byte, start, turn, ended}
use Rattle.lists.proofs.machine_of.Goals as goal

pub loop-i-init : goal.loop-i-init
loop-i-init c = start _ c.requires

pub overflow_cast-map : goal.overflow_cast-map
overflow_cast-map c = record { fits = omega (arith, byte _ c.requires _ c.loop-i-test.true) }

pub loop-i-preserved : goal.loop-i-preserved
loop-i-preserved c = turn c.loop-i.invariant c.loop-i-test.true

pub returns : goal.returns
unfolding machine_of
returns c = rw (ended c.loop-i.invariant c.loop-i-test.false)
