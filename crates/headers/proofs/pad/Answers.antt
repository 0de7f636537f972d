-- `pad` stores zeros and the length.
use Rattle.headers.proofs.Entries.{close}
use Rattle.headers.proofs.pad.Goals as goal

pub returns : goal.returns
returns c = close (rw c.padding.ensures at c.fill-end.ensures) c.le.ensures
