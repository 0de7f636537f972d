-- `x64_back::undo::undo_record` meets its contract.
use native.Mathlib.Omega.{arith}
use Rattle.walk.specs.Standing.{memory_of}
use Rattle.x64_reader.proofs.Entry.{none_read, some_read}
use Rattle.x64_back.proofs.Records.{no_record, no_codes, not_undone, undone}
use Rattle.x64_back.proofs.EntryBack.{entry_back}
use Rattle.x64_back.proofs.undo.undo_record.Goals as goal

pub returns-in_default : goal.returns-in_default
returns-in_default c =
    let a = c.args in
    let e = no_record a.info.now a.place (memory_of a.memory.now) a.registers c.in_default.ensures in
    record { answer_value = e; entry_back = entry_back _ _ _ _ (λ i. omega (arith, c.type_inv.info i)) e }

pub returns-in_default-count : goal.returns-in_default-count
returns-in_default-count c =
    let a = c.args in
    let e = no_codes a.info.now a.place (memory_of a.memory.now) a.registers c.in-Some.ensures (none_read _ c.in_default-count.ensures) in
    record { answer_value = e; entry_back = entry_back _ _ _ _ (λ i. omega (arith, c.type_inv.info i)) e }

pub returns-in_default-undo_all : goal.returns-in_default-undo_all
returns-in_default-undo_all c =
    let a = c.args in
    let e = not_undone a.info.now a.place (memory_of a.memory.now) a.registers c.in-Some.ensures (some_read _ c.in-Some-count.ensures) c.in_default-undo_all.ensures in
    record { answer_value = e; entry_back = entry_back _ _ _ _ (λ i. omega (arith, c.type_inv.info i)) e }

pub returns : goal.returns
returns c =
    let a = c.args in
    let e = undone a.info.now a.place (memory_of a.memory.now) a.registers c.in-Some.ensures (some_read _ c.in-Some-count.ensures) c.in-Some-undo_all.ensures in
    record { answer_value = e; entry_back = entry_back _ _ _ _ (λ i. omega (arith, c.type_inv.info i)) e }
