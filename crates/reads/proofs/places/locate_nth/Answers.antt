-- `reads::places::locate_nth` meets its contract.
use Rattle.std.proofs.lemmas.Result.{err_from_is_err_and}
use Rattle.reads.proofs.Placing.{nth_both}
use Rattle.format.specs.Prelude.{onward}
use Rattle.format.specs.Lists.{relocations_of}
use Rattle.reads.proofs.places.locate_nth.Goals as goal

pub returns-in_err-cie : goal.returns-in_err-cie
unfolding onward
returns-in_err-cie c =
    let x = c.args.section.now in
    let p = err_from_is_err_and c.from_residual.result c.from_residual.ensures.1 in
    rw (p.1, p.2, nth_both x.bytes.now (relocations_of x.relocations.now) x.layout.debug x.layout.word c.args.k, c.in_err-cie.ensures)

pub locate_entries-requires : goal.locate_entries-requires
locate_entries-requires c = (c.in_ok-cie.ensures.0, c.in_ok-cie.ensures.1)

pub returns : goal.returns
unfolding onward
returns c =
    let x = c.args.section.now in
    rw (nth_both x.bytes.now (relocations_of x.relocations.now) x.layout.debug x.layout.word c.args.k, c.in_ok-cie.ensures.2) c.locate_entries.ensures
