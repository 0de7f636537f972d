-- `Function::of` meets its contract.
use mathlib.Core.Path.{refl, subst, sym}
use Rattle.arm64_function.specs.Own.{Ready}
use native.Mathlib.Omega.{arith}
use Rattle.arm64_function.proofs.Given.{ready, in_list}
use Rattle.arm64_function.proofs.Function.of.Goals as goal

pub invariant_of-record : goal.invariant_of-record
invariant_of-record c = record { held = c.requires.room }

pub parts_at-requires : goal.parts_at-requires
parts_at-requires c = omega (arith, in_list c.requires (omega arith))

pub invariant_of-result : goal.invariant_of-result
invariant_of-result c = record { ready = subst (Ready c.args.x.now.epilogues.now c.args.x.now.codes.now) (sym c.parts_at.ensures) (ready c.requires (omega arith)) }

pub returns : goal.returns
returns c = record { epilogues = refl; codes = refl; parts = c.parts_at.ensures; size = c.number.ensures }
