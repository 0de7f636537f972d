-- `round_trips::marked::write_and_read_marked` meets its contract.
use mathlib.Core.Path.{sym, ◌∙◌}
use lib.Seq.{length-take-le}
use Rattle.format.proofs.Bits.{flag_number}
use Rattle.unwind.proofs.Fitting.{answer_fits}
use Rattle.unwind.proofs.Fronts.{fronts, reading_of}
use Rattle.unwind.proofs.Marks.{both_marked}
use Rattle.round_trips.proofs.Marks.{mark_written, marked}
use Rattle.round_trips.proofs.marked.write_and_read_marked.Goals as goal

pub numbers_in-m-requires : goal.numbers_in-m-requires
numbers_in-m-requires c = let f = fronts _ _ _ _ _ _ _ _ _ _ c.write-outcome.ensures (answer_fits _ _ _ _) in f.relocations_fit

pub slice_bounds-unwind_read-end : goal.slice_bounds-unwind_read-end
slice_bounds-unwind_read-end c =
    let f = fronts _ _ _ _ _ _ _ _ _ _ c.write-outcome.ensures (answer_fits _ _ _ _) in
    sym (length-take-le _ _ (rw c.bytes_in-n.ensures f.bytes_fit))

pub slice_bounds-unwind_read-end-2 : goal.slice_bounds-unwind_read-end-2
slice_bounds-unwind_read-end-2 c =
    let f = fronts _ _ _ _ _ _ _ _ _ _ c.write-outcome.ensures (answer_fits _ _ _ _) in
    sym (length-take-le _ _ (rw c.numbers_in-m.ensures f.relocations_fit))

pub returns : goal.returns
returns c =
    let w = c.write-outcome.ensures in
    let f = fronts _ _ _ _ _ _ _ _ _ _ w (answer_fits _ _ _ _) in
    let kind = c.from.ensures ∙ flag_number _ in
    let reading = reading_of _ _ _ _ _ _ _ _ _ _ _ _ c.bytes_in-n.ensures c.numbers_in-m.ensures kind c.word_in.ensures in
    let mark = mark_written _ _ _ _ _ _ _ _ _ _ _ c.bytes_in-n.ensures c.numbers_in-m.ensures kind c.word_in.ensures in
    let e = c.unwind_read-answer.ensures ∙ both_marked reading mark in
    record { writes = w; reading_value = e; marked = marked _ _ _ _ _ _ _ _ _ _ _ w.outcome f e }
