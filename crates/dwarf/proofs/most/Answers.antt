-- `dwarf::most` meets its contract.
use native.Mathlib.Omega.{arith}
use borrow.Author.Rules.{rules}
use Rattle.format.specs.Lists.{function_stride, count}
use Rattle.dwarf.specs.Tables.{most_in}
use Rattle.dwarf.proofs.AtMost.{labelled_few}
use Rattle.dwarf.proofs.most.Goals as goal

pub labelled_total-requires : goal.labelled_total-requires
labelled_total-requires c = (search rules, c.requires.functions, omega (arith, labelled_few c.args.fs.now 0 (count function_stride c.args.fs.now), c.requires.rows))

pub overflow_mul-result-4 : goal.overflow_mul-result-4
overflow_mul-result-4 c = omega (arith, c.labelled_total.ensures, labelled_few c.args.fs.now 0 (count function_stride c.args.fs.now), c.requires.rows)

pub overflow_add-result-2 : goal.overflow_add-result-2
overflow_add-result-2 c = omega (arith, c.labelled_total.ensures, labelled_few c.args.fs.now 0 (count function_stride c.args.fs.now), c.requires.rows, c.requires.functions)

pub returns : goal.returns
unfolding most_in
returns c = rw (c.total.ensures, c.labelled_total.ensures, c.total-2.ensures)
