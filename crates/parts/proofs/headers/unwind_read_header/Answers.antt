-- `parts::headers::unwind_read_header` meets its contract.
use mathlib.Core.Path.{ap, sym, ◌∙◌}
use borrow.Author.Tests.{not-true, not-false}
use Rattle.parts.specs.Headers.{header_answer}
use Rattle.parts.proofs.Entered.{unlaid, no_entry, an_entry, lies, entryless, at_header, at_record}
use Rattle.parts.proofs.Headed.{header_entry_lem}
use Rattle.parts.proofs.Readings.{header_taken}
use Rattle.parts.proofs.headers.unwind_read_header.Goals as goal

pub returns-in_default : goal.returns-in_default
returns-in_default c =
    let e = c.refused.ensures ∙ sym (unlaid (header_entry_lem c.args.section.now c.args.kind c.args.word c.args.place) (rw c.in_default.is at c.layout_of.ensures)) in
    record { result_value = e; taken = header_taken _ _ _ _ e }

pub returns-in_default-next_entry : goal.returns-in_default-next_entry
returns-in_default-next_entry c =
    let d = rw c.in-Some.is at c.layout_of.ensures in
    let e = c.refused-in_default-next_entry.ensures ∙ sym (entryless (header_entry_lem c.args.section.now c.args.kind c.args.word c.args.place) d.0 (no_entry c.args.section.now _ c.args.place c.next_entry.ensures d.1 c.in_default-next_entry.is)) in
    record { result_value = e; taken = header_taken _ _ _ _ e }

pub returns-then-not-e : goal.returns-then-not-e
returns-then-not-e c =
    let d = rw c.in-Some.is at c.layout_of.ensures in
    let e = c.refused-then-not-e.ensures ∙ sym (at_record (header_entry_lem c.args.section.now c.args.kind c.args.word c.args.place) d.0 (an_entry c.args.section.now _ c.args.place c.next_entry.ensures c.in-Ok.is d.1) (not-true _ c.if-not-e.true)) in
    record { result_value = e; taken = header_taken _ _ _ _ e }

pub placed-requires : goal.placed-requires
placed-requires c = lies c.args.section.now _ c.args.place c.next_entry.ensures c.in-Ok.is

pub returns-in-Ok-header_fields : goal.returns-in-Ok-header_fields
returns-in-Ok-header_fields c =
    let d = rw c.in-Some.is at c.layout_of.ensures in
    let e = sym (ap header_answer c.in-Ok-header_fields.is) ∙ (rw (c.placed.ensures.0, c.placed.ensures.1, c.placed.ensures.2, d.1, d.2) at c.header_fields.ensures) ∙ sym (at_header (header_entry_lem c.args.section.now c.args.kind c.args.word c.args.place) d.0 (an_entry c.args.section.now _ c.args.place c.next_entry.ensures c.in-Ok.is d.1) (not-false _ c.if-not-e.false)) in
    record { result_value = e; taken = header_taken _ _ _ _ e }

pub returns-in-Err : goal.returns-in-Err
returns-in-Err c =
    let d = rw c.in-Some.is at c.layout_of.ensures in
    let e = c.refused-in-Err.ensures ∙ sym (ap header_answer c.in-Err.is) ∙ (rw (c.placed.ensures.0, c.placed.ensures.1, c.placed.ensures.2, d.1, d.2) at c.header_fields.ensures) ∙ sym (at_header (header_entry_lem c.args.section.now c.args.kind c.args.word c.args.place) d.0 (an_entry c.args.section.now _ c.args.place c.next_entry.ensures c.in-Ok.is d.1) (not-false _ c.if-not-e.false)) in
    record { result_value = e; taken = header_taken _ _ _ _ e }
