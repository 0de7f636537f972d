-- `struct_entries::fits` meets its contract.
use native.Mathlib.Omega.{arith}
use Rattle.struct_entries.proofs.Rooms.{no_stride, by_stride}
use Rattle.struct_entries.proofs.fits.Goals as goal

pub returns-then-stride-eq0 : goal.returns-then-stride-eq0
returns-then-stride-eq0 c = no_stride c.args.count c.args.stride c.args.room c.if-stride-eq0.true

pub returns : goal.returns
returns c = by_stride c.args.count c.args.stride c.args.room (omega (arith, c.if-stride-eq0.false))
