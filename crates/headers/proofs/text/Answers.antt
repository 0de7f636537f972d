-- `text` stores the letters.
use native.Mathlib.Omega.{arith}
use Rattle.format.proofs.Copied.{copied}
use Rattle.headers.proofs.text.Goals as goal

pub returns : goal.returns
returns c = copied c.copy_from_slice.ensures.after (omega arith) (omega arith) c.requires
