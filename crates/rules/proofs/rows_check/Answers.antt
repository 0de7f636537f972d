-- `rules::rows_check` meets its contract.
use Rattle.rules.proofs.Checking.{start, turn, stopped, ended}
use Rattle.rules.proofs.rows_check.Goals as goal

pub loop-i-init : goal.loop-i-init
loop-i-init g c = start c.start-o.ensures

pub loop-i-preserved : goal.loop-i-preserved
loop-i-preserved g c = turn c.loop-i.invariant c.loop-i-test.true c.row.ensures c.next.ensures c.in-Some.is

pub returns-in_default : goal.returns-in_default
returns-in_default g c = stopped c.loop-i.invariant c.loop-i-test.true c.row.ensures c.next.ensures c.in_default.is

pub returns : goal.returns
returns g c = ended c.loop-i.invariant c.loop-i-test.false
