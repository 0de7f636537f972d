-- `reads::index::count` meets its contract.
use mathlib.Core.Path.{ap, ◌∙◌}
use lib.ListN.{length}
use Rattle.reader.proofs.Searches.{count_given}
use Rattle.reads.proofs.index.count.Goals as goal

pub returns : goal.returns
returns c = count_given c.new.result c.count.result c.count.ensures.ran ∙ ap length c.new.ensures.2
