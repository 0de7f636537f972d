-- `Codes::saved_at` meets its contract.
use mathlib.Core.Path.{◌∙◌}
use Rattle.arm64_simple.proofs.OneCode.{saved_by}
use Rattle.arm64_simple.proofs.Codes.saved_at.Goals as goal

pub returns : goal.returns
returns c = c.new.ensures ∙ saved_by c.args.self.now.list.now c.args.self.now.run c.place_of-i.result c.args.j c.place_of-i.ensures.0
