-- `lookup::registers::told` meets its contract.
use Rattle.lookup.proofs.Listing.{told_of}
use Rattle.lookup.proofs.registers.told.Goals as goal

pub returns : goal.returns
returns c = told_of c.numbers_of-read.result c.args.first c.args.shortest c.args.registers c.numbers_of-read.ensures
