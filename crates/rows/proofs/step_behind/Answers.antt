-- `rows::step_behind` meets its contract.
use Rattle.format.proofs.PutLaws.{◌then◌}
use Rattle.rows.proofs.step_behind.Goals as goal

pub returns : goal.returns
returns c = c.byte-a.ensures then c.le.ensures
