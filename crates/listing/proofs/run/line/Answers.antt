-- `listing::run::line` meets its contract.
use native.Mathlib.Omega.{arith}
use Rattle.format.proofs.Copied.{copied}
use Rattle.listing.proofs.StoredLines.{line_wrote}
use Rattle.listing.proofs.run.line.Goals as goal

pub returns : goal.returns
returns c =
    let a = c.args in
    line_wrote a.offset c.numbers_of-n.result a.rules c.numbers_of-n.ensures
    (copied c.copy_from_slice.ensures.after (omega arith) (omega arith) c.requires)
