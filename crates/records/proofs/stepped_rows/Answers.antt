-- `records::stepped_rows` meets its contract.
use Rattle.records.proofs.RowLoops.{row_at_ready, start, room, turn, ended}
use Rattle.records.proofs.stepped_rows.Goals as goal

pub loop-i-init : goal.loop-i-init
loop-i-init c = start c.requires.0 c.requires.1

pub stepped_row-p-requires : goal.stepped_row-p-requires
stepped_row-p-requires c = (row_at_ready c.requires.0 c.loop-i.invariant.going c.loop-i-test.true, room c.loop-i.invariant c.loop-i-test.true)

pub offset_at-from-requires : goal.offset_at-from-requires
offset_at-from-requires c = (row_at_ready c.requires.0 c.loop-i.invariant.going c.loop-i-test.true).inside

pub loop-i-preserved : goal.loop-i-preserved
loop-i-preserved c = turn c.loop-i.invariant c.loop-i-test.true c.requires.0 c.offset_at-from.ensures c.stepped_row-p.ensures

pub returns : goal.returns
returns c = ended c.loop-i.invariant c.loop-i-test.false
