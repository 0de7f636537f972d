-- `rows::named` meets its contract.
use Rattle.format.proofs.PutLaws.{◌then◌}
use Rattle.rows.proofs.named.Goals as goal

pub returns : goal.returns
returns c = c.byte-a.ensures then (rw c.from.ensures at c.uleb.ensures)
