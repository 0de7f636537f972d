-- `given::FunctionRows::remembers` meets its contract.
use Rattle.prologue.proofs.Turns.{remembers_is}
use Rattle.prologue.proofs.given.FunctionRows.remembers.Goals as goal

pub returns : goal.returns
returns c = remembers_is _ c.args.i
