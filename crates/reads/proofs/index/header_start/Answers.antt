-- `reads::index::header_start` meets its contract.
use Rattle.reads.proofs.Indexing.{last_is, headed_nowhere, start_none, start_behind, start_last, start_missing, start_found, found_headed}
use Rattle.section_check.proofs.Pass.{before_ahead, before_place}
use Rattle.reader.specs.Spans.{listed}
use Rattle.format.specs.Reader.{entries}
use Rattle.format.specs.Lists.{relocations_of}
use Rattle.std.proofs.Common.{◌≡◌, refl, sym, ◌∙◌, arith, rules}
use Rattle.reads.specs.Standing.{stored_as}
use Rattle.reads.proofs.index.header_start.Goals as goal

pub returns-in_err-place : goal.returns-in_err-place
unfolding stored_as
returns-in_err-place c =
    let a = c.args in
    rw c.from_residual.ensures (start_none a.links.now.bytes.now (relocations_of a.links.now.relocations.now) a.links.now.debug (listed (entries a.links.now.bytes.now)) a.fde.at a.fde.end c.header_place.ensures c.in_err-place.was, headed_nowhere a.links.now.debug (listed (entries a.links.now.bytes.now)))

pub returns-then-fde-place : goal.returns-then-fde-place
unfolding stored_as
returns-then-fde-place c =
    let a = c.args in
    (start_behind a.links.now.bytes.now (relocations_of a.links.now.relocations.now) a.links.now.debug (listed (entries a.links.now.bytes.now)) a.fde.at a.fde.end c.header_place.ensures c.in_ok-place.was c.if-fde-place.true, headed_nowhere a.links.now.debug (listed (entries a.links.now.bytes.now)))

pub returns-then-eq : goal.returns-then-eq
unfolding stored_as
returns-then-eq c =
    let a = c.args in
    let p = c.requires in
    let q : stored_as a.last ≡ c.in_ok-place.place = rw (last_is a.last (sym c.eq.ensures ∙ c.if-eq.true)) refl in
    (q ∙ start_last a.links.now.bytes.now (relocations_of a.links.now.relocations.now) a.links.now.debug (listed (entries a.links.now.bytes.now)) a.fde.at a.fde.end c.header_place.ensures c.in_ok-place.was p.2 (sym q) (omega (arith, c.if-fde-place.false)) (search rules), p.2)

pub header_from-requires : goal.header_from-requires
header_from-requires c =
    let a = c.args in
    rw c.before-mark.ensures
    (before_ahead a.stretches.now.marks a.stretches.now.step _ a.links.now.bytes.now c.requires.4, before_place a.stretches.now.marks a.stretches.now.step _)

pub returns-in_err-cie : goal.returns-in_err-cie
unfolding stored_as
returns-in_err-cie c =
    let a = c.args in
    rw c.from_residual-in_err-cie.ensures (start_missing a.links.now.bytes.now (relocations_of a.links.now.relocations.now) a.links.now.debug (listed (entries a.links.now.bytes.now)) a.fde.at a.fde.end c.header_place.ensures c.in_ok-place.was c.header_from.ensures c.in_err-cie.was, headed_nowhere a.links.now.debug (listed (entries a.links.now.bytes.now)))

pub returns : goal.returns
unfolding stored_as
returns c =
    let a = c.args in (
      start_found a.links.now.bytes.now (relocations_of a.links.now.relocations.now) a.links.now.debug (listed (entries a.links.now.bytes.now)) a.fde.at a.fde.end c.header_place.ensures c.in_ok-place.was c.header_from.ensures c.in_ok-cie.was,
      found_headed a.links.now.bytes.now (relocations_of a.links.now.relocations.now) a.links.now.debug (listed (entries a.links.now.bytes.now)) a.fde.at a.fde.end c.header_place.ensures c.in_ok-place.was c.header_from.ensures c.in_ok-cie.was (omega (arith, c.if-fde-place.false)),
    )
