-- `Epilogue::run` meets its contract.
use mathlib.Core.Path.{ap}
use Rattle.arm64_simple.specs.Saves.{saves}
use Rattle.arm64_function.specs.Own.{epilogue_at}
use Rattle.arm64_function.proofs.Epilogue.run.Goals as goal

pub invariant_of-result : goal.invariant_of-result
invariant_of-result c = record { inside = rw (c.epilogue_at.ensures, c.«record».ensures.0, c.«record».ensures.1) (c.args.self.now.function.ready.inside c.args.self.now.i c.args.self.now.among.0 c.args.self.now.among.1) }

pub returns : goal.returns
unfolding epilogue_at
returns c = let e = rw (c.«record».ensures.0, c.«record».ensures.1) at c.epilogue_at.ensures in (ap (saves c.args.self.now.function.codes.now) e, ap (λ r. r.count) e)
