-- `arm64_table::put_row` meets its contract.
use native.Mathlib.Omega.{arith}
use Rattle.format.proofs.LebBack.{little-length}
use Rattle.format.proofs.PutLaws.{◌then◌, kept}
use Rattle.arm64_table.proofs.put_row.Goals as goal

pub le-requires : goal.le-requires
le-requires c = omega (arith, c.requires, c.le-a.ensures.past, little-length 4 0, kept c.le-a.ensures)

pub returns : goal.returns
returns c = c.le-a.ensures then c.le.ensures
