-- `parts::operation::unwind_read_operation` meets its contract.
use mathlib.Core.Path.{sym, ◌∙◌}
use native.Mathlib.Omega.{arith}
use Rattle.format.proofs.FieldsBack.{word_small}
use Rattle.parts.proofs.Operated.{wordless, ended, behind, over, inside, some_bytes}
use Rattle.parts.proofs.operation.unwind_read_operation.Goals as goal

pub returns-then-not-is_word : goal.returns-then-not-is_word
returns-then-not-is_word c = c.refused.ensures ∙ sym (wordless c.args.section.now c.args.at c.args.end c.args.word (sym c.is_word.ensures ∙ c.if-not-is_word.true))

pub returns-then-at-end : goal.returns-then-at-end
returns-then-at-end c = c.refused-then-at-end.ensures ∙ sym (ended c.args.section.now c.args.at c.args.end c.args.word (sym c.is_word.ensures ∙ c.if-not-is_word.false) c.if-at-end.true)

pub returns-then-end-at : goal.returns-then-end-at
returns-then-end-at c = c.refused-then-end-at.ensures ∙ sym (behind c.args.section.now c.args.at c.args.end c.args.word (sym c.is_word.ensures ∙ c.if-not-is_word.false) c.if-at-end.false c.if-end-at.true)

pub returns-then-section-to : goal.returns-then-section-to
returns-then-section-to c = c.refused-then-section-to.ensures ∙ sym (over c.args.section.now c.args.at c.args.end c.args.word (sym c.is_word.ensures ∙ c.if-not-is_word.false) c.if-at-end.false c.if-end-at.false c.if-section-to.true)

pub first-requires : goal.first-requires
first-requires c =
    let m = some_bytes c.args.section.now c.args.at c.args.end c.args.word c.if-at-end.false c.if-end-at.false c.if-section-to.false (omega arith) in
    ((word_small c.args.word (rw (sym c.is_word.ensures ∙ c.if-not-is_word.false) tt)).0, m.0, m.1)

pub returns : goal.returns
returns c = c.first.ensures ∙ sym (inside c.args.section.now c.args.at c.args.end c.args.word (sym c.is_word.ensures ∙ c.if-not-is_word.false) c.if-at-end.false c.if-end-at.false c.if-section-to.false)
