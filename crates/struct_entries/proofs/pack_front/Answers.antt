-- `struct_entries::pack_front` meets its contract.
use Rattle.struct_entries.proofs.Stored.{refused, accepted}
use Rattle.struct_entries.proofs.pack_front.Goals as goal

pub returns-then-not-fits : goal.returns-then-not-fits
returns-then-not-fits g c = rw c.number.ensures (refused g.R.Record.meaning g.met.R.Record.even c.args.records.now c.args.numbers.now c.fits.result (rw c.STRIDE.ensures at c.fits.ensures) (rw c.if-not-fits.true tt))

pub returns : goal.returns
returns g c = accepted g.R.Record.meaning g.met.R.Record.even c.args.records.now c.args.numbers.now c.fits.result (rw c.STRIDE.ensures at c.fits.ensures) (rw c.if-not-fits.false tt) c.put_all.ensures
