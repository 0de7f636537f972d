-- `arm64_sharing::put_run` meets its contract.
use mathlib.Core.Path.{sym, ap, ◌∙◌}
use native.Mathlib.Omega.{arith}
use Rattle.format.proofs.PutLaws.{kept, ◌then◌}
use Rattle.arm64.specs.Runs.{no_pair, simplify}
use Rattle.arm64_simple.specs.Saves.{saves}
use Rattle.arm64_simple.specs.Steps.{steps_left}
use Rattle.arm64_sharing.proofs.Storing.{put_start, put_low, put_fits, put_turn, put_ended, run_bytes_lem}
use Rattle.arm64_sharing.proofs.put_run.Goals as goal

pub loop-s-init : goal.loop-s-init
loop-s-init c = put_start c.args.run.now.list.now c.args.run.now.run (ap steps_left c.into_iter-s-iterator.ensures.into_iter_gives ∙ c.steps-s-items.ensures) c.requires.0 c.requires.1 c.requires.2

pub overflow_sub-to : goal.overflow_sub-to
overflow_sub-to c = omega (arith, put_low c.loop-s.invariant c.in-Some.ensures.steps, c.code_size-to.ensures.0)

pub put_code-past-requires : goal.put_code-past-requires
put_code-past-requires c = (put_fits c.loop-s.invariant c.in-Some.ensures.steps, omega (arith, put_low c.loop-s.invariant c.in-Some.ensures.steps, c.code_size-to.ensures.0, c.loop-s.invariant.room))

pub loop-s-preserved : goal.loop-s-preserved
loop-s-preserved c = put_turn c.loop-s.invariant c.in-Some.ensures.steps c.code_size-to.ensures.0 c.put_code-past.ensures

pub byte-requires : goal.byte-requires
byte-requires c = omega (arith, c.requires.2, c.loop-s.invariant.same_length)

pub shape_of-out : goal.shape_of-out
shape_of-out c = kept c.byte.ensures ∙ c.loop-s.invariant.same_length

pub returns : goal.returns
returns c = rw (sym (run_bytes_lem (simplify no_pair (saves c.args.run.now.list.now c.args.run.now.run)))) (put_ended c.loop-s.invariant c.in-None.ensures.steps.0 c.requires.1 then c.byte.ensures)
