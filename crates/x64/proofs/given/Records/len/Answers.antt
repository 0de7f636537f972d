-- `given::Records::len` meets its contract.
use Rattle.x64.specs.Listed.{records_in}
use Rattle.x64.proofs.given.Records.len.Goals as goal

pub returns-in-Codes : goal.returns-in-Codes
unfolding records_in
returns-in-Codes c = rw c.in-Codes.is

pub returns-in-ByRows : goal.returns-in-ByRows
unfolding records_in
returns-in-ByRows c = rw c.in-ByRows.is c.len.ensures
