-- `unwind::seh` meets its contract.
use Rattle.unwind.proofs.seh.Goals as goal

pub returns : goal.returns
returns c = c.seh.ensures
