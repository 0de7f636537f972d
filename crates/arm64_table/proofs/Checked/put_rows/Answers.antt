-- `Checked::put_rows` meets its contract.
use native.Mathlib.Omega.{arith}
use Rattle.arm64_table.proofs.Rows.{row_is, relocs_are}
use Rattle.arm64_table.proofs.Loops.{rowing, row_room, relocs_room, rowed, all_rows, all_relocs}
use Rattle.arm64_table.proofs.Entries.{symbol_at, symbol_low}
use Rattle.arm64_table.proofs.Checked.put_rows.Goals as goal

pub loop-k-init : goal.loop-k-init
loop-k-init c = rowing _ _ c.requires.0 c.requires.1

pub packed_word-word-requires : goal.packed_word-word-requires
packed_word-word-requires c = c.args.self.now.fine.each_one _ c.loop-k-test.true

pub overflow_mul-k : goal.overflow_mul-k
overflow_mul-k c = omega (arith, c.args.self.now.fine.most, c.loop-k-test.true)

pub put_row-requires : goal.put_row-requires
put_row-requires c = row_room c.loop-k.invariant c.loop-k-test.true

pub overflow_mul-k-in-loop-k : goal.overflow_mul-k-in-loop-k
overflow_mul-k-in-loop-k c = omega (arith, c.args.self.now.fine.most, c.loop-k-test.true)

pub overflow_mul-k-in-loop-k-2 : goal.overflow_mul-k-in-loop-k-2
overflow_mul-k-in-loop-k-2 c = omega (arith, c.args.self.now.fine.most, c.loop-k-test.true)

pub offset_bounds-self-k : goal.offset_bounds-self-k
offset_bounds-self-k c = omega (arith, c.args.self.now.fine.most, c.loop-k-test.true)

pub bounds-self-k : goal.bounds-self-k
bounds-self-k c = let l = (c.args.self.now.fine.each_one _ c.loop-k-test.true).listed in omega (arith, l.room)

pub put_row_relocs-to-requires : goal.put_row_relocs-to-requires
put_row_relocs-to-requires c = let a = c.args in let l = (c.args.self.now.fine.each_one _ c.loop-k-test.true).listed in let e = c.packed_word-word.ensures in rw (symbol_at a.self.now.functions.lists.functions.now a.self.now.functions.lists.epilogues.now a.self.now.functions.lists.codes.now) (rw (relocs_are _ e) (relocs_room c.loop-k.invariant c.loop-k-test.true), omega (arith, c.args.self.now.fine.most, c.loop-k-test.true), symbol_low a.self.now.functions.lists.functions.now a.self.now.functions.lists.epilogues.now a.self.now.functions.lists.codes.now l)

pub loop-k-preserved : goal.loop-k-preserved
loop-k-preserved c = let a = c.args in let e = c.packed_word-word.ensures in rowed c.loop-k.invariant c.loop-k-test.true (rw (row_is _ e c.unwrap_or.ensures) at c.put_row.ensures) (rw (relocs_are _ e) at (rw (symbol_at a.self.now.functions.lists.functions.now a.self.now.functions.lists.epilogues.now a.self.now.functions.lists.codes.now) at c.put_row_relocs-to.ensures))

pub shape_of-bytes : goal.shape_of-bytes
shape_of-bytes c = c.loop-k.invariant.rows_in.left.kept

pub shape_of-relocations : goal.shape_of-relocations
shape_of-relocations c = c.loop-k.invariant.relocs_in.left.kept

pub returns : goal.returns
returns c = (all_rows c.loop-k.invariant c.loop-k-test.false, all_relocs c.loop-k.invariant c.loop-k-test.false)
