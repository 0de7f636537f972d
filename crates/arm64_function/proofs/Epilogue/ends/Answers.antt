-- `Epilogue::ends` meets its contract.
use mathlib.Core.Path.{refl}
use Rattle.arm64.specs.Writer.{instructions}
use Rattle.arm64_function.proofs.Epilogue.ends.Goals as goal

pub returns : goal.returns
unfolding instructions
returns c = rw (c.start.ensures, c.run.ensures.1) refl
