-- `x64_reader::large_size` meets its contract.
use Rattle.format.specs.X64Reader.{large_size}
use Rattle.format.proofs.Choice.{if-eq, if-ne}
use native.Mathlib.Omega.{arith}
use mathlib.Core.Path.{sym}
use Prim.Native.Nat.{◌*◌}
use Rattle.x64_reader.proofs.large_size.Goals as goal

pub returns-then-info-eq0 : goal.returns-then-info-eq0
unfolding large_size
returns-then-info-eq0 c = let v = c.args.v in (sym (if-eq c.args.info 0 (8 * v) v c.if-info-eq0.true), omega (arith, c.requires))

pub returns-else-info-eq0 : goal.returns-else-info-eq0
unfolding large_size
returns-else-info-eq0 c = let v = c.args.v in (sym (if-ne c.args.info 0 (8 * v) v c.if-info-eq0.false), omega (arith, c.requires))
