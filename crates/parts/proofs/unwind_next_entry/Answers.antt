-- `parts::unwind_next_entry` meets its contract.
use mathlib.Core.Path.{refl, sym, ap, ◌∙◌}
use Rattle.format.specs.Coded.{numbered}
use Rattle.format.proofs.Bits.{flag_number}
use Rattle.reader.proofs.Seeking.{answer_is, answer_no}
use Rattle.parts.specs.Entries.{standing, entry_numbers}
use Rattle.parts.proofs.Entered.{entry_kind, entry_there}
use Rattle.parts.proofs.unwind_next_entry.Goals as goal

pub returns-then-kind-gt1 : goal.returns-then-kind-gt1
returns-then-kind-gt1 c = c.stopped.ensures ∙ sym (entry_kind c.args.section.now c.args.kind c.args.at c.if-kind-gt1.true)

pub returns-in-Ok : goal.returns-in-Ok
unfolding standing entry_numbers
returns-in-Ok c = rw (entry_there c.args.section.now c.args.kind c.args.at c.if-kind-gt1.false, answer_is _ (sym c.next_entry.ensures ∙ ap numbered c.in-Ok.is), c.from.ensures, flag_number c.in-Ok.e.header) refl

pub returns-in-Err : goal.returns-in-Err
unfolding standing
returns-in-Err c = rw (entry_there c.args.section.now c.args.kind c.args.at c.if-kind-gt1.false, answer_no _ (sym c.next_entry.ensures ∙ ap numbered c.in-Err.is)) c.stopped-in-Err.ensures
