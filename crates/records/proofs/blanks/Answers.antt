-- `records::blanks` meets its contract.
use Rattle.format.proofs.PutLaws.{◌then◌}
use Rattle.records.proofs.FieldLaws.{blanks_bytes}
use Rattle.records.proofs.blanks.Goals as goal

pub returns : goal.returns
returns c = rw blanks_bytes (c.uleb-a.ensures then c.fill.ensures)
