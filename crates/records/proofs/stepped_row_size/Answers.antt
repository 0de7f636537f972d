-- `records::stepped_row_size` meets its contract.
use native.Mathlib.Omega.{arith}
use Rattle.format.specs.Lists.{row_at}
use Rattle.records.proofs.RowLoops.{offset_of, row_at-length, row_at_short}
use Rattle.records.proofs.stepped_row_size.Goals as goal

pub offset_at-requires : goal.offset_at-requires
offset_at-requires c = c.requires.inside

pub overflow_sub-offset_at : goal.overflow_sub-offset_at
overflow_sub-offset_at c = omega (arith, c.offset_at.ensures, offset_of c.args.run.now.rows.now c.args.i, c.requires.forward)

pub invariant_of-size : goal.invariant_of-size
invariant_of-size c = let p = c.requires in record { small = (p.word_low, p.word_high) }

pub returns : goal.returns
returns c =
    let e = row_at-length c.args.run.now.word c.args.from (row_at c.args.run.now.rows.now c.args.i) in
    let a = rw (c.offset_at.ensures, ← offset_of c.args.run.now.rows.now c.args.i) at c.advance_size-step.ensures in
    let b = rw c.at.ensures at c.size.ensures in
    let l = row_at_short c.requires in
    (omega arith, omega arith)

pub overflow_add-result : goal.overflow_add-result
overflow_add-result c = omega (arith, (returns c).1)
