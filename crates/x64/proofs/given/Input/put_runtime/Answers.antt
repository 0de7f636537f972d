-- `given::Input::put_runtime` meets its contract.
use Rattle.x64.proofs.Stored.{runtime_length, relating, room, related, all_related}
use Rattle.format.proofs.ListLaws.{each-length}
use Rattle.format.specs.Prelude.{each}
use Rattle.x64.specs.Given.{named_in}
use native.Mathlib.Omega.{arith}
use Rattle.x64.proofs.given.Input.put_runtime.Goals as goal

pub loop-k-init : goal.loop-k-init
loop-k-init c = let x = c.args.self.now in relating (named_in x) (omega (arith, runtime_length 0 (each (named_in x) 0 x.count), each-length (named_in x) 0 x.count, c.requires))

pub runtime-to-requires : goal.runtime-to-requires
runtime-to-requires c = (c.loop-k-test.true, room c.loop-k.invariant c.loop-k-test.true)

pub loop-k-preserved : goal.loop-k-preserved
loop-k-preserved c = related c.loop-k.invariant c.loop-k-test.true c.runtime-to.ensures

pub shape_of-out : goal.shape_of-out
shape_of-out c = c.loop-k.invariant.left.kept

pub returns : goal.returns
returns c = all_related c.loop-k.invariant c.loop-k-test.false
