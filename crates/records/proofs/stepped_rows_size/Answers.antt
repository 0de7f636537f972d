-- `records::stepped_rows_size` meets its contract.
use native.Mathlib.Omega.{arith}
use mathlib.Core.Path.{refl}
use Rattle.records.proofs.RowLoops.{row_at_ready, rows_at_most, start_size, turn_size, ended_size}
use Rattle.records.proofs.stepped_rows_size.Goals as goal

pub loop-i-init : goal.loop-i-init
loop-i-init c = start_size c.requires

pub stepped_row_size-size-requires : goal.stepped_row_size-size-requires
stepped_row_size-size-requires c = row_at_ready c.requires c.loop-i.invariant.going c.loop-i-test.true

pub overflow_add-size : goal.overflow_add-size
overflow_add-size c = omega (arith, (turn_size c.loop-i.invariant c.loop-i-test.true c.requires refl c.stepped_row_size-size.ensures.0).left, rows_at_most c.requires, c.requires.few)

pub offset_at-from-requires : goal.offset_at-from-requires
offset_at-from-requires c = (row_at_ready c.requires c.loop-i.invariant.going c.loop-i-test.true).inside

pub loop-i-preserved : goal.loop-i-preserved
loop-i-preserved c = turn_size c.loop-i.invariant c.loop-i-test.true c.requires c.offset_at-from.ensures c.stepped_row_size-size.ensures.0

pub returns : goal.returns
returns c = ended_size c.loop-i.invariant c.loop-i-test.false
