-- `reader::shortest_at` meets its contract.
use mathlib.Core.Path.{sym, ◌∙◌}
use native.Mathlib.Omega.{arith}
use borrow.Author.Tests.{not-true, not-false}
use Rattle.format.proofs.FieldsBack.{word_small}
use Rattle.reader.proofs.Asked.{fits, mark_outside, mark_fields, mark_header, mark_record}
use Rattle.reader.proofs.shortest_at.Goals as goal

pub returns-then-not-in_section : goal.returns-then-not-in_section
returns-then-not-in_section c = mark_outside _ _ _ (sym c.in_section.ensures ∙ c.if-not-in_section.true)

pub returns-then-not-l : goal.returns-then-not-l
returns-then-not-l c = mark_fields _ _ _ (sym c.in_section.ensures ∙ c.if-not-in_section.false) (not-true _ c.if-not-l.true)

pub slice_bounds-run-start : goal.slice_bounds-run-start
slice_bounds-run-start c = let f = fits _ _ (sym c.in_section.ensures ∙ c.if-not-in_section.false) in omega (arith, f.1, f.2)

pub slice_bounds-run-count : goal.slice_bounds-run-count
slice_bounds-run-count c = let f = fits _ _ (sym c.in_section.ensures ∙ c.if-not-in_section.false) in omega (arith, f.1, f.2)

pub slice_bounds-run-end : goal.slice_bounds-run-end
slice_bounds-run-end c = let f = fits _ _ (sym c.in_section.ensures ∙ c.if-not-in_section.false) in omega (arith, f.1, f.2)

pub run-requires : goal.run-requires
run-requires c = (word_small _ (fits _ _ (sym c.in_section.ensures ∙ c.if-not-in_section.false)).0).0

pub returns-then-not-run : goal.returns-then-not-run
returns-then-not-run c = mark_header _ _ _ (sym c.in_section.ensures ∙ c.if-not-in_section.false) (not-false _ c.if-not-l.false) (sym c.run.ensures ∙ c.if-not-run.true)

pub slice_bounds-run-start-2 : goal.slice_bounds-run-start-2
slice_bounds-run-start-2 c = let f = fits _ _ (sym c.in_section.ensures ∙ c.if-not-in_section.false) in omega (arith, f.3, f.4)

pub slice_bounds-run-count-2 : goal.slice_bounds-run-count-2
slice_bounds-run-count-2 c = let f = fits _ _ (sym c.in_section.ensures ∙ c.if-not-in_section.false) in omega (arith, f.3, f.4)

pub slice_bounds-run-end-2 : goal.slice_bounds-run-end-2
slice_bounds-run-end-2 c = let f = fits _ _ (sym c.in_section.ensures ∙ c.if-not-in_section.false) in omega (arith, f.3, f.4)

pub run-requires-2 : goal.run-requires-2
run-requires-2 c = (word_small _ (fits _ _ (sym c.in_section.ensures ∙ c.if-not-in_section.false)).0).0

pub returns : goal.returns
returns c = c.run-2.ensures ∙ mark_record _ _ _ (sym c.in_section.ensures ∙ c.if-not-in_section.false) (not-false _ c.if-not-l.false) (sym c.run.ensures ∙ c.if-not-run.false)
