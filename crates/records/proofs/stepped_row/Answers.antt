-- `records::stepped_row` meets its contract.
use native.Mathlib.Omega.{arith}
use Rattle.format.specs.Lists.{row_at}
use Rattle.format.proofs.PutLaws.{◌then◌}
use Rattle.records.specs.Stepped.{stepped_row_bytes}
use Rattle.records.proofs.RowLoops.{offset_of, row_at-length}
use borrow.Author.Rules.{rules}
use Rattle.records.proofs.stepped_row.Goals as goal

pub offset_at-requires : goal.offset_at-requires
offset_at-requires c = c.requires.0.inside

pub overflow_sub-offset_at : goal.overflow_sub-offset_at
overflow_sub-offset_at c = omega (arith, c.offset_at.ensures, offset_of c.args.run.now.rows.now c.args.i, c.requires.0.forward)

pub advance-a-requires : goal.advance-a-requires
advance-a-requires c = let h = rw (row_at-length, offset_of, ← c.offset_at.ensures) at c.requires.1 in search rules

pub invariant_of-put : goal.invariant_of-put
invariant_of-put c = record { small = (c.requires.0.word_low, c.requires.0.word_high) }

pub put-requires : goal.put-requires
put-requires c =
    let h = rw (row_at-length, offset_of, ← c.offset_at.ensures) at c.requires.1 in
    rw c.at.ensures (search rules)

pub returns : goal.returns
unfolding stepped_row_bytes row_at
returns c = (rw c.offset_at.ensures at c.advance-a.ensures) then (rw c.at.ensures at c.put.ensures)
