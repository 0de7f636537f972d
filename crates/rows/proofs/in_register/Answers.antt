-- `rows::in_register` meets its contract.
use Rattle.format.proofs.PutLaws.{◌then◌}
use Rattle.rows.proofs.in_register.Goals as goal

pub returns : goal.returns
returns c = c.named-a.ensures then (rw c.from.ensures at c.uleb.ensures)
