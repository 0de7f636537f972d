-- `places::LocatedFromLocationLocated::from` meets its contract.
use Rattle.format.proofs.Bits.{flag_number}
use Rattle.reads.specs.Standing.{located_numbers}
use Rattle.std.proofs.Common.{refl}
use Rattle.reads.proofs.places.LocatedFromLocationLocated.from.Goals as goal

pub returns : goal.returns
unfolding located_numbers
returns c = rw (c.from.ensures, c.from-2.ensures, flag_number c.args.l.signal, flag_number c.args.l.shortest) refl
