-- `struct_entries::ready` meets its contract.
use mathlib.Core.Bool.{not}
use mathlib.Core.Path.{ap, sym}
use Prim.Native.Nat.{◌≤◌}
use lib.ListN.{length}
use lib.Seq.{length-take-le}
use borrow.Author.Rules.{rules}
use borrow.Author.Tests.{leb-true}
use Rattle.lists.proofs.Answers.{accepted}
use Rattle.struct_entries.specs.Entries.{needed}
use Rattle.struct_entries.proofs.Zeros.{too_short, by_zeros}
use Rattle.struct_entries.proofs.ready.Goals as goal
use Rattle.struct_entries.proofs.ready.Goals.{Else-not-long_enough}

pub returns-then-not-long_enough : goal.returns-then-not-long_enough
returns-then-not-long_enough c = too_short _ _ _ c.long_enough.ensures (ap not c.if-not-long_enough.true)

enough : (c : Else-not-long_enough) → needed c.args.functions c.args.rows ≤ length c.args.numbers.now
enough c = leb-true _ _ (accepted c.long_enough.ensures (ap not c.if-not-long_enough.false))

pub overflow_mul-functions : goal.overflow_mul-functions
unfolding needed
overflow_mul-functions c = search (enough c, rules)

pub overflow_mul-rows : goal.overflow_mul-rows
unfolding needed
overflow_mul-rows c = search (enough c, rules)

pub overflow_add-functions : goal.overflow_add-functions
unfolding needed
overflow_add-functions c = search (enough c, rules)

pub slice_bounds-all_zero-end : goal.slice_bounds-all_zero-end
unfolding needed
slice_bounds-all_zero-end c = sym (length-take-le _ _ (enough (goal.at.slice_bounds-all_zero-end c).Else-not-long_enough))

pub returns : goal.returns
unfolding needed
returns c = by_zeros _ _ _ c.long_enough.ensures (ap not c.if-not-long_enough.false) c.all_zero.ensures
