-- `given::Input::named` meets its contract.
use native.Mathlib.Omega.{arith}
use Rattle.x64.proofs.Spans.{stride_most}
use Rattle.x64.proofs.given.Input.named.Goals as goal

pub overflow_mul-at : goal.overflow_mul-at
overflow_mul-at c = rw c.stride.ensures (record { fits = omega (arith, (c.args.self.now.listed.each_one _ c.requires).within) })

pub bounds-self-at : goal.bounds-self-at
bounds-self-at c =
    rw c.stride.ensures (omega (arith, (c.args.self.now.listed.each_one _ c.requires).within, stride_most c.args.self.now.source))

pub bounds-self-at-2 : goal.bounds-self-at-2
bounds-self-at-2 c =
    rw c.stride.ensures (omega (arith, (c.args.self.now.listed.each_one _ c.requires).within, stride_most c.args.self.now.source))
