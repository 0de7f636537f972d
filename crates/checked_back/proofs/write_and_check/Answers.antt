-- `checked_back::write_and_check` meets its contract.
use mathlib.Core.Path.{sym}
use lib.Seq.{length-take-le}
use Rattle.unwind.proofs.Fronts.{fronts}
use Rattle.checked_back.proofs.Back.{table_fits, check_of, passes_back}
use Rattle.checked_back.proofs.write_and_check.Goals as goal

pub slice_bounds-unwind_check_section-end : goal.slice_bounds-unwind_check_section-end
slice_bounds-unwind_check_section-end c =
    let f = fronts _ _ _ _ _ _ _ _ _ _ c.relaxed_table-outcome.ensures (table_fits _ _ _) in
    sym (length-take-le _ _ (rw c.bytes_in-n.ensures f.bytes_fit))

pub returns : goal.returns
returns c =
    let w = c.relaxed_table-outcome.ensures in
    let f = fronts _ _ _ _ _ _ _ _ _ _ w (table_fits _ _ _) in
    let e = check_of _ _ _ c.bytes_in-n.ensures c.word_in-word.ensures c.unwind_check_section-answer.ensures.value in
    record {
      writes = w;
      checked_value = e;
      passes_back = passes_back _ _ _ _ _ _ _ w.outcome f e;
    }
