-- `x64_reader::read_as` meets its contract.
use mathlib.Core.Path.{◌∙◌}
use Rattle.x64_reader.proofs.read_as.Goals as goal
use Rattle.format.proofs.Bits.{flag_number}

pub returns : goal.returns
returns c = rw (c.from.ensures ∙ flag_number c.args.framed, c.from-2.ensures, c.from-3.ensures)
