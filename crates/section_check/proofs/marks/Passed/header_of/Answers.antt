-- `section_check::marks::Passed::header_of` meets its contract.
use mathlib.Core.Path.{sym, ◌∙◌}
use Rattle.section_check.proofs.Entries.{no_place, place_of}
use Rattle.section_check.proofs.Pass.{before_ahead, before_place}
use Rattle.section_check.proofs.marks.Passed.header_of.Goals as goal

pub returns-in_err-place : goal.returns-in_err-place
returns-in_err-place c = rw (c.from_residual.ensures, no_place c.args.self.now.section.now.bytes.now c.args.fde.at c.args.fde.end (sym c.in_err-place.was ∙ c.distance_back.ensures))

pub header_from-requires : goal.header_from-requires
header_from-requires c =
    let x = c.args.self.now in
    rw (c.links.ensures.0, c.before-from.ensures)
    (before_ahead x.stretches.now.marks x.stretches.now.step _ x.section.now.bytes.now x.ahead, before_place x.stretches.now.marks x.stretches.now.step _)

pub returns : goal.returns
returns c = rw (place_of c.args.self.now.section.now.bytes.now c.args.fde.at c.args.fde.end (sym c.in_ok-place.was ∙ c.distance_back.ensures)) (rw (c.links.ensures.0, c.links.ensures.2, c.args.self.now.eh) at c.header_from.ensures)
