-- `groups` stores a number group by group.
use borrow.Author.Rules.{rules}
use native.Mathlib.Omega.{arith}
use Rattle.format.proofs.Storing.{start, turn, ended}
use Rattle.leb.proofs.SevenBits.{groups_last, groups_more}
use Rattle.leb.proofs.groups.Goals as goal

pub loop-x-init : goal.loop-x-init
loop-x-init g c = (search rules, start c.requires.2)

pub loop-x-preserved : goal.loop-x-preserved
loop-x-preserved g c = (search rules, turn (rw (groups_more g.row.END c.requires.0 c.args.neg c.loop-x.x c.loop-x-test.true c.loop-x.invariant.0, ← c.group.ensures.0) at c.loop-x.invariant.1))

pub bounds-out-i : goal.bounds-out-i
bounds-out-i g c = omega (arith, (loop-x-preserved g c).1.kept, (loop-x-preserved g c).1.room)

pub returns : goal.returns
returns g c = ended (turn (rw (groups_last g.row.END c.requires.0 c.args.neg c.loop-x.x c.loop-x-test.false, ← c.group-2.ensures.0) at c.loop-x.invariant.1))

pub bounds-out-i-2 : goal.bounds-out-i-2
bounds-out-i-2 g c = omega (arith, (returns g c).past)
