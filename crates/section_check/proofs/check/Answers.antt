-- `section_check::check` meets its contract.
use mathlib.Core.Path.{sym, ◌∙◌}
use Rattle.section_check.proofs.Says.{word_asked, no_word, untiled, gone_over}
use Rattle.section_check.proofs.check.Goals as goal

pub returns-in_default : goal.returns-in_default
returns-in_default c = rw c.from.ensures (no_word _ _ (word_asked _ (rw c.in_default.is at c.section_of.ensures)))

pub returns-then-not-tiles : goal.returns-then-not-tiles
returns-then-not-tiles c =
    let d = rw c.in-Some.is at c.section_of.ensures in
    rw c.from-then-not-tiles.ensures (untiled _ _ (word_asked _ d.2.0) (rw d.0 at (sym c.tiles.ensures ∙ c.if-not-tiles.true)))

pub check_records-requires : goal.check_records-requires
check_records-requires c =
    let d = rw c.in-Some.is at c.section_of.ensures in
    (d.2.1, rw (sym c.tiles.ensures ∙ c.if-not-tiles.false) tt)

pub returns : goal.returns
returns c =
    let d = rw c.in-Some.is at c.section_of.ensures in
    rw (d.0, d.2.2) at c.check_records.ensures ∙ gone_over _ _ (word_asked _ d.2.0) (rw (← d.0, sym c.tiles.ensures ∙ c.if-not-tiles.false) tt)
