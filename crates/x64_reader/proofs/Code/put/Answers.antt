-- `x64_reader::Code::put` meets its contract.
use mathlib.Core.Path.{◌∙◌}
use native.Mathlib.Omega.{arith}
use Rattle.format.proofs.Copied.{copied}
use Rattle.x64_reader.proofs.Runs.{fields-length}
use Rattle.x64_reader.proofs.Code.put.Goals as goal

pub returns : goal.returns
returns c = (copied {n = 5} (c.copy_from_slice.ensures.after ∙ c.numbers-n.ensures) (omega (arith, fields-length c.args.self.says)) (omega arith) c.requires).stored
