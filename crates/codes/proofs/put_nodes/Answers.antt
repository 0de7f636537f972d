-- `codes::put_nodes` meets its contract.
use native.Mathlib.Omega.{arith}
use borrow.Author.Rules.{rules}
use Rattle.codes.proofs.Copies.{copied}
use Rattle.codes.proofs.put_nodes.Goals as goal

pub returns : goal.returns
returns c = copied c.args.n.bytes (omega arith) (omega arith) (search rules) c.requires.1 c.copy_from_slice.ensures.after
