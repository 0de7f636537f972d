-- `parts::records::unwind_read_record` meets its contract.
use mathlib.Core.Path.{ap, sym, ◌∙◌}
use Rattle.parts.specs.Records.{record_answer}
use Rattle.parts.proofs.Entered.{unlaid, no_entry, an_entry, lies, entryless, at_header, at_record}
use Rattle.parts.proofs.Recorded.{record_entry_lem}
use Rattle.parts.proofs.Readings.{record_taken}
use Rattle.parts.proofs.records.unwind_read_record.Goals as goal

pub returns-in_default : goal.returns-in_default
returns-in_default c =
    let e = c.refused.ensures ∙ sym (unlaid (record_entry_lem c.args.section.now c.args.kind c.args.word c.args.pointer c.args.place) (rw c.in_default.is at c.layout_of.ensures)) in
    record { result_value = e; taken = record_taken _ _ _ _ _ e }

pub returns-in_default-next_entry : goal.returns-in_default-next_entry
returns-in_default-next_entry c =
    let d = rw c.in-Some.is at c.layout_of.ensures in
    let e = c.refused-in_default-next_entry.ensures ∙ sym (entryless (record_entry_lem c.args.section.now c.args.kind c.args.word c.args.pointer c.args.place) d.0 (no_entry c.args.section.now _ c.args.place c.next_entry.ensures d.1 c.in_default-next_entry.is)) in
    record { result_value = e; taken = record_taken _ _ _ _ _ e }

pub returns-then-e : goal.returns-then-e
returns-then-e c =
    let d = rw c.in-Some.is at c.layout_of.ensures in
    let e = c.refused-then-e.ensures ∙ sym (at_header (record_entry_lem c.args.section.now c.args.kind c.args.word c.args.pointer c.args.place) d.0 (an_entry c.args.section.now _ c.args.place c.next_entry.ensures c.in-Ok.is d.1) c.if-e.true) in
    record { result_value = e; taken = record_taken _ _ _ _ _ e }

pub placed-requires : goal.placed-requires
placed-requires c = lies c.args.section.now _ c.args.place c.next_entry.ensures c.in-Ok.is

pub returns-in-Ok-record_fields : goal.returns-in-Ok-record_fields
returns-in-Ok-record_fields c =
    let d = rw c.in-Some.is at c.layout_of.ensures in
    let e = sym (ap record_answer c.in-Ok-record_fields.is) ∙ (rw (c.placed.ensures.0, c.placed.ensures.1, c.placed.ensures.2, d.1, d.2) at c.record_fields.ensures) ∙ sym (at_record (record_entry_lem c.args.section.now c.args.kind c.args.word c.args.pointer c.args.place) d.0 (an_entry c.args.section.now _ c.args.place c.next_entry.ensures c.in-Ok.is d.1) c.if-e.false) in
    record { result_value = e; taken = record_taken _ _ _ _ _ e }

pub returns-in-Err : goal.returns-in-Err
returns-in-Err c =
    let d = rw c.in-Some.is at c.layout_of.ensures in
    let e = c.refused-in-Err.ensures ∙ sym (ap record_answer c.in-Err.is) ∙ (rw (c.placed.ensures.0, c.placed.ensures.1, c.placed.ensures.2, d.1, d.2) at c.record_fields.ensures) ∙ sym (at_record (record_entry_lem c.args.section.now c.args.kind c.args.word c.args.pointer c.args.place) d.0 (an_entry c.args.section.now _ c.args.place c.next_entry.ensures c.in-Ok.is d.1) c.if-e.false) in
    record { result_value = e; taken = record_taken _ _ _ _ _ e }
