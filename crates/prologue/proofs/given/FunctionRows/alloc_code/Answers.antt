-- `given::FunctionRows::alloc_code` meets its contract.
use mathlib.Core.Path.{sym, ◌∙◌}
use Rattle.format.specs.Prelude.{pick}
use Rattle.prologue.specs.Pieces.{piece_of}
use Rattle.prologue.proofs.Distances.{difference_fits, difference_is}
use Rattle.prologue.proofs.given.FunctionRows.alloc_code.Goals as goal

pub returns-then-joins : goal.returns-then-joins
unfolding piece_of pick
returns-then-joins c = rw (sym c.joins.ensures ∙ c.if-joins.true)

pub overflow_sub-result : goal.overflow_sub-result
overflow_sub-result c = difference_fits c.args.z c.args.sofar c.requires.2 c.requires.1

pub returns : goal.returns
unfolding piece_of pick
returns c = rw (sym c.joins.ensures ∙ c.if-joins.false, difference_is c.args.z c.args.sofar c.requires.2 c.requires.1)
