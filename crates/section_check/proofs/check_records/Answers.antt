-- `section_check::check_records` meets its contract.
use mathlib.Core.Path.{sym, ◌∙◌}
use native.Mathlib.Omega.{arith}
use Rattle.reader.proofs.Giving.{begin, at, ends, held, past, stopped}
use Rattle.section_check.proofs.Pass.{start, marks_on, past_header, fails_here, past_record, ended}
use Rattle.section_check.proofs.check_records.Goals as goal

pub entries-init : goal.entries-init
entries-init c =
    let e = c.new-entry-items.ensures in
    rw (c.into_iter-entry-iterator.ensures.into_iter_gives) (begin e.0 e.1 (start c.args.section.now.bytes.now c.args.section.now.layout.word c.requires.1))

pub is_header-requires : goal.is_header-requires
is_header-requires c = held c.entries.invariant c.in-Some.ensures.steps

pub entries-preserved-then-is_header : goal.entries-preserved-then-is_header
entries-preserved-then-is_header c =
    let o = c.entries.invariant in
    let g = c.in-Some.ensures.steps in
    past o g (past_header (at o g) (ends o g) _ c.mark.ensures.0 (sym c.is_header.ensures ∙ c.if-is_header.true))

pub invariant_of-passed : goal.invariant_of-passed
invariant_of-passed c =
    let o = c.entries.invariant in
    let g = c.in-Some.ensures.steps in
    record { eh = c.requires.0; ahead = marks_on (at o g) (ends o g) _ c.mark.ensures.0 }

pub passes-requires : goal.passes-requires
passes-requires c =
    let o = c.entries.invariant in
    let g = c.in-Some.ensures.steps in
    held o g

pub returns-then-not-passes : goal.returns-then-not-passes
returns-then-not-passes c =
    let o = c.entries.invariant in
    let g = c.in-Some.ensures.steps in
    fails_here (at o g) (ends o g) (sym c.is_header.ensures ∙ c.if-is_header.false) c.args.section.now.layout.is_word (sym c.passes.ensures ∙ c.if-not-passes.true)

pub overflow_add-k : goal.overflow_add-k
overflow_add-k c =
    let o = c.entries.invariant in
    let g = c.in-Some.ensures.steps in
    omega (arith, (at o g).few, (held o g).0, (held o g).1)

pub entries-preserved : goal.entries-preserved
entries-preserved c =
    let o = c.entries.invariant in
    let g = c.in-Some.ensures.steps in
    past o g (past_record (at o g) (ends o g) (sym c.is_header.ensures ∙ c.if-is_header.false) c.args.section.now.layout.is_word _ c.mark.ensures.0 (sym c.passes.ensures ∙ c.if-not-passes.false))

pub returns : goal.returns
returns c = ended c.entries.invariant.here (stopped c.entries.invariant c.in-None.ensures.steps)
