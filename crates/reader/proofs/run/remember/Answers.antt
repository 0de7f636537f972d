-- `reader::run::remember` meets its contract.
use mathlib.Core.Path.{refl}
use Rattle.reader.proofs.Acting.{full, remembered}
use Rattle.reader.proofs.run.remember.Goals as goal

pub returns-then-depth-ge16 : goal.returns-then-depth-ge16
returns-then-depth-ge16 c = full c.args.s.now c.if-depth-ge16.true

pub returns : goal.returns
returns c = remembered c.args.s.now _ c.if-depth-ge16.false refl refl refl
