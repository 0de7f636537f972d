-- `walked_back::write_and_walk` meets its contract.
use mathlib.Core.Path.{sym, ap, ◌∙◌}
use lib.Seq.{length-take-le}
use Rattle.format.specs.Prelude.{Result}
use Rattle.unwind.proofs.Fitting.{answer_fits}
use Rattle.unwind.proofs.Fronts.{fronts}
use Rattle.walk.specs.Walk.{Chain}
use Rattle.format.proofs.Bits.{flag_number}
use Rattle.walked.specs.Entry.{chain_numbers, chain_stored}
use Rattle.walked_back.proofs.Back.{walk_of, walks_back}
use Rattle.walked_back.proofs.write_and_walk.Goals as goal

pub numbers_in-m-requires : goal.numbers_in-m-requires
numbers_in-m-requires c = let f = fronts _ _ _ _ _ _ _ _ _ _ c.write-outcome.ensures (answer_fits _ _ _ _) in f.relocations_fit

pub slice_bounds-unwind_walk-end : goal.slice_bounds-unwind_walk-end
slice_bounds-unwind_walk-end c =
    let f = fronts _ _ _ _ _ _ _ _ _ _ c.write-outcome.ensures (answer_fits _ _ _ _) in
    sym (length-take-le _ _ (rw c.bytes_in-n.ensures f.bytes_fit))

pub slice_bounds-unwind_walk-end-2 : goal.slice_bounds-unwind_walk-end-2
slice_bounds-unwind_walk-end-2 c =
    let f = fronts _ _ _ _ _ _ _ _ _ _ c.write-outcome.ensures (answer_fits _ _ _ _) in
    sym (length-take-le _ _ (rw c.numbers_in-m.ensures f.relocations_fit))

pub returns : goal.returns
returns c =
    let w = c.write-outcome.ensures in
    let f = fronts _ _ _ _ _ _ _ _ _ _ w (answer_fits _ _ _ _) in
    let a = c.args in
    let s = walk_of _ _ _ _ _ a.file.now a.pc a.stack a.placed.now _ _ _ _ c.bytes_in-n.ensures c.numbers_in-m.ensures (c.from.ensures ∙ flag_number _) in
    let u = c.unwind_walk-answer.ensures in
    let n = u.result_value ∙ ap chain_numbers s in
    let q = u.frames_after ∙ ap (λ (x : Result Chain). chain_stored x a.frames.now) s in
    record {
      writes = w;
      answer_value = n;
      frames_after = q;
      walks_back = walks_back _ _ _ _ _ _ _ _ _ _ _ _ _ _ w.outcome f n q;
    }
