-- `apply_back::write_apply_and_read` meets its contract.
use mathlib.Core.Path.{sym, ◌∙◌}
use lib.Seq.{length-take-le}
use Rattle.apply_back.proofs.Together.{front_of, count_fits, moved, apply_of, reading_of}
use Rattle.apply_back.proofs.write_apply_and_read.Goals as goal

pub numbers_in-m-requires : goal.numbers_in-m-requires
numbers_in-m-requires c = (front_of _ _ _ _ _ (rw c.from.ensures at c.relaxed_table-outcome.ensures)).relocations_fit

pub slice_bounds-unwind_apply-end : goal.slice_bounds-unwind_apply-end
slice_bounds-unwind_apply-end c =
    sym (length-take-le _ _ (rw c.bytes_in-n.ensures (front_of _ _ _ _ _ (rw c.from.ensures at c.relaxed_table-outcome.ensures)).bytes_fit))

pub slice_bounds-unwind_apply-end-2 : goal.slice_bounds-unwind_apply-end-2
slice_bounds-unwind_apply-end-2 c =
    sym (length-take-le _ _ (rw c.numbers_in-m.ensures (front_of _ _ _ _ _ (rw c.from.ensures at c.relaxed_table-outcome.ensures)).relocations_fit))

pub slice_bounds-read-end : goal.slice_bounds-read-end
slice_bounds-read-end c =
    let a = apply_of _ _ _ _ _ _ _ _ _ _ _ c.bytes_in-n.ensures c.numbers_in-m.ensures c.unwind_apply-number.ensures in
    sym (length-take-le _ _ (rw c.placed_count-there.ensures (count_fits _ _ _ _ _ (rw c.from.ensures at c.relaxed_table-outcome.ensures) _ _ _ _ a)))

pub returns : goal.returns
returns c =
    let w = rw c.from.ensures at c.relaxed_table-outcome.ensures in
    let a = apply_of _ _ _ _ _ _ _ _ _ _ _ c.bytes_in-n.ensures c.numbers_in-m.ensures c.unwind_apply-number.ensures in
    let e = c.read-reading.ensures ∙ reading_of _ _ _ _ _ _ _ _ _ c.placed_count-there.ensures c.word_in.ensures in
    record { writes = w; applies = a; reading_value = e; moved_back = moved _ _ _ _ _ w _ _ _ _ a _ _ _ e }
