-- `reads::places::locate_at` meets its contract.
use Rattle.reads.proofs.Placing.{at_behind, at_headless, at_missing, at_both}
use Rattle.reader.proofs.Tiling.{entered}
use Rattle.std.proofs.Common.{sym, ◌∙◌, arith}
use Rattle.reads.proofs.places.locate_at.Goals as goal

pub returns-then-at-cie : goal.returns-then-at-cie
returns-then-at-cie c = at_behind _ _ _ _ _ c.if-at-cie.true

pub returns-in_default : goal.returns-in_default
returns-in_default c =
    let a = c.args in
    at_headless a.section.now.bytes.now a.section.now.layout.debug a.section.now.layout.word a.at a.cie (omega (arith, c.if-at-cie.false)) (sym c.entry_end.ensures ∙ c.in_default.is)

pub returns-in_default-entry_end : goal.returns-in_default-entry_end
returns-in_default-entry_end c =
    let a = c.args in
    at_missing a.section.now.bytes.now a.section.now.layout.debug a.section.now.layout.word a.at a.cie (omega (arith, c.if-at-cie.false)) (sym c.entry_end.ensures ∙ c.in-Some.is) (sym c.entry_end-2.ensures ∙ c.in_default-entry_end.is)

pub locate_entries-requires : goal.locate_entries-requires
locate_entries-requires c =
    let a = c.args in
    let h = entered a.section.now.bytes.now a.cie (sym c.entry_end.ensures ∙ c.in-Some.is) in
    let e = entered a.section.now.bytes.now a.at (sym c.entry_end-2.ensures ∙ c.in-Some-entry_end.is) in
    ((h.long, h.inside), (e.long, e.inside))

pub returns : goal.returns
returns c =
    let a = c.args in
    c.locate_entries.ensures
    ∙ at_both a.section.now.bytes.now a.section.now.layout.debug a.section.now.layout.word a.at a.cie (omega (arith, c.if-at-cie.false)) (sym c.entry_end.ensures ∙ c.in-Some.is) (sym c.entry_end-2.ensures ∙ c.in-Some-entry_end.is)
