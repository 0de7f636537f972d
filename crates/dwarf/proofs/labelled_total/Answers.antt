-- `dwarf::labelled_total` meets its contract.
use native.Mathlib.Omega.{arith}
use borrow.Author.Rules.{rules}
use Prim.Native.Nat.{◌+◌, ◌*◌, ◌≤◌}
use lib.ListN.{length}
use Rattle.dwarf.specs.Tables.{labelled_rows}
use Rattle.dwarf.proofs.AtMost.{one_of}
use Rattle.dwarf.proofs.labelled_total.Goals as goal

pub summed-requires : goal.summed-requires
summed-requires c = (
  c.requires.1,
  λ k h. let p : 18 * k + 18 ≤ length c.args.fs.now = omega (arith, h, c.requires.0) in search (rules, p),
  λ k v h p. let e = one_of (labelled_rows c.args.fs.now) 0 c.args.n k (omega arith) (omega arith) in omega (arith, p, e, c.requires.2),
)
