-- `unwind::write_and_read` meets its contract.
use mathlib.Core.Path.{sym, ◌∙◌}
use native.Mathlib.Omega.{arith}
use lib.Seq.{length-take-le}
use Rattle.format.proofs.Bits.{flag_number}
use Rattle.unwind.proofs.Fitting.{answer_fits}
use Rattle.unwind.proofs.Fronts.{fronts, reading_of}
use Rattle.unwind.proofs.Demands.{demanded}
use Rattle.unwind.proofs.write_and_read.Goals as goal

pub numbers_in-m-requires : goal.numbers_in-m-requires
numbers_in-m-requires c =
    let f = fronts _ _ _ _ _ _ _ _ _ _ c.write-outcome.ensures (answer_fits _ _ _ _) in
    f.relocations_fit

pub slice_bounds-read-end : goal.slice_bounds-read-end
slice_bounds-read-end c =
    let f = fronts _ _ _ _ _ _ _ _ _ _ c.write-outcome.ensures (answer_fits _ _ _ _) in
    sym (length-take-le _ _ (rw c.bytes_in-n.ensures f.bytes_fit))

pub slice_bounds-read-end-2 : goal.slice_bounds-read-end-2
slice_bounds-read-end-2 c =
    let f = fronts _ _ _ _ _ _ _ _ _ _ c.write-outcome.ensures (answer_fits _ _ _ _) in
    sym (length-take-le _ _ (rw c.numbers_in-m.ensures f.relocations_fit))

pub returns : goal.returns
returns c =
    let w = c.write-outcome.ensures in
    let f = fronts _ _ _ _ _ _ _ _ _ _ w (answer_fits _ _ _ _) in
    let e = c.read-answer.ensures ∙ reading_of _ _ _ _ _ _ _ _ _ _ _ _ c.bytes_in-n.ensures c.numbers_in-m.ensures (c.from.ensures ∙ flag_number _) c.word_in.ensures in
    record { writes = w; reading_value = e; demanded = demanded _ _ _ _ _ _ _ _ _ _ _ (omega (arith, c.ranges.q.fits)) w.outcome f e }
