-- `reads::places::locate_entries` meets its contract.
use Rattle.reads.proofs.Placing.{entries_refused, entries_located}
use Rattle.reader.proofs.Asked.{place_found, place_refused}
use Rattle.std.proofs.lemmas.Result.{err_from_is_err_and}
use Rattle.std.proofs.Common.{ap, ◌∙◌}
use Rattle.std.specs.Prelude.{Ok}
use Rattle.reads.proofs.places.locate_entries.Goals as goal

pub returns-in_err-l : goal.returns-in_err-l
returns-in_err-l c =
    let a = c.args in
    let p = err_from_is_err_and c.from_residual.result c.from_residual.ensures.1 in
    rw (p.1, p.2) (entries_refused a.section.now.bytes.now a.section.now.layout.debug a.section.now.layout.word a.cie.at a.cie.end a.fde.at a.fde.end (place_refused _ _ c.in_err-l.was c.parse.ensures.located))

pub returns : goal.returns
returns c =
    let a = c.args in
    let h = c.requires in
    let e = rw c.in_ok-l.was at c.parse.ensures.ends in
    ap Ok c.from.ensures
    ∙ entries_located a.section.now.bytes.now a.section.now.layout.debug a.section.now.layout.word a.cie.at a.cie.end a.fde.at a.fde.end h.0.0 h.0.1 h.1.0 h.1.1 (place_found c.in_ok-l.was c.parse.ensures.located) e.0 e.1
