-- `dwarf::total` meets its contract.
use native.Mathlib.Omega.{arith}
use borrow.Author.Rules.{rules}
use Rattle.format.specs.Lists.{field, function_stride}
use Rattle.lists.proofs.Sums.{within}
use Rattle.dwarf.proofs.AtMost.{one_of}
use Rattle.dwarf.proofs.total.Goals as goal

pub summed-requires : goal.summed-requires
summed-requires c = (
  c.requires.2,
  λ k h. let p = within 18 c.args.n k c.args.j _ h c.requires.0 c.requires.1 in search (rules, p),
  λ k v h p. let e = one_of (λ k. field function_stride c.args.fs.now k c.args.j) 0 c.args.n k (omega arith) (omega arith) in omega (arith, p, e, c.requires.3),
)
