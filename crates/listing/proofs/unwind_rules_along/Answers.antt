-- `listing::unwind_rules_along` meets its contract.
use mathlib.Core.Path.{sym, ◌∙◌}
use lib.ListN.{length}
use Rattle.listing.proofs.Asking.{unlocated, outside, short, asked, listed, in_order}
use Rattle.reads.specs.Places.{reader_places}
use Rattle.listing.specs.Lines.{along, Lists}
use Rattle.listing.proofs.Saying.{listed_says}
use Rattle.listing.proofs.unwind_rules_along.Goals as goal

pub returns-then-located-ne0 : goal.returns-then-located-ne0
returns-then-located-ne0 c =
    let x : Lists c.args.q (along c.args.section.now c.args.located (length c.args.lines.now)) c.unlisted.result c.args.lines.now c.args.lines.now = rw c.unlisted.ensures (unlocated c.args.section.now c.args.located c.args.q c.args.lines.now c.if-located-ne0.true) in
    record { lists = x; says = listed_says _ _ _ _ _ _ x }

pub returns-then-not-in_section : goal.returns-then-not-in_section
returns-then-not-in_section c =
    let x : Lists c.args.q (along c.args.section.now c.args.located (length c.args.lines.now)) c.unlisted-then-not-in_section.result c.args.lines.now c.args.lines.now = rw (c.unlisted-then-not-in_section.ensures, c.number.ensures) (outside c.args.section.now c.args.located c.args.q c.args.lines.now c.if-located-ne0.false (rw c.from-l.ensures at (sym c.in_section.ensures ∙ c.if-not-in_section.true))) in
    record { lists = x; says = listed_says _ _ _ _ _ _ x }

pub overflow_sub-located : goal.overflow_sub-located
overflow_sub-located c = in_order c.args.section.now c.args.located c.args.q c.args.lines.now c.if-located-ne0.false (rw c.from-l.ensures at (sym c.in_section.ensures ∙ c.if-not-in_section.false))

pub returns-then-lines-located : goal.returns-then-lines-located
returns-then-lines-located c =
    let x : Lists c.args.q (along c.args.section.now c.args.located (length c.args.lines.now)) c.unlisted-then-lines-located.result c.args.lines.now c.args.lines.now = rw (c.unlisted-then-lines-located.ensures, c.number-then-lines-located.ensures) (short c.args.section.now c.args.located c.args.q c.args.lines.now c.if-located-ne0.false (rw c.from-l.ensures at (sym c.in_section.ensures ∙ c.if-not-in_section.false)) c.if-lines-located.true) in
    record { lists = x; says = listed_says _ _ _ _ _ _ x }

pub fill-requires : goal.fill-requires
unfolding reader_places
fill-requires c = rw c.from-l.ensures (asked c.args.section.now c.args.located c.args.q c.args.lines.now c.if-located-ne0.false (rw c.from-l.ensures at (sym c.in_section.ensures ∙ c.if-not-in_section.false)) c.if-lines-located.false)

pub returns : goal.returns
unfolding reader_places
returns c =
    let x = listed c.args.section.now c.args.located c.args.q c.args.lines.now c.if-located-ne0.false (rw c.from-l.ensures at (sym c.in_section.ensures ∙ c.if-not-in_section.false)) c.if-lines-located.false (rw c.from-l.ensures at c.fill.ensures) in
    record { lists = x; says = listed_says _ _ _ _ _ _ x }
