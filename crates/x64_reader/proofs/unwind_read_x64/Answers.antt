-- `x64_reader::unwind_read_x64` meets its contract.
use native.Mathlib.Omega.{arith}
use lib.ListN.{length}
use Rattle.x64_reader.proofs.Entry.{refuses, no_record, none_read, some_read, no_codes, no_space, reads}
use Rattle.x64_reader.proofs.unwind_read_x64.Goals as goal

pub returns-in_default : goal.returns-in_default
returns-in_default c =
    let a = c.args in
    let x = refuses (no_record a.info.now a.place (length a.codes.now) c.in_default.ensures) c.refused.ensures in
    record { result_value = x.0; codes_after = x.1 }

pub returns-in_default-count : goal.returns-in_default-count
returns-in_default-count c =
    let a = c.args in
    let h = c.in-Some.ensures in
    let x = refuses (no_codes a.info.now a.place h (length a.codes.now) (none_read _ c.in_default-count.ensures)) c.refused-in_default-count.ensures in
    record { result_value = x.0; codes_after = x.1 }

pub returns-then-codes-n : goal.returns-then-codes-n
returns-then-codes-n c =
    let a = c.args in
    let h = c.in-Some.ensures in
    let x = refuses (no_space a.info.now a.place h (length a.codes.now) (some_read _ c.in-Some-count.ensures).held c.if-codes-n.true) c.refused-then-codes-n.ensures in
    record { result_value = x.0; codes_after = x.1 }

pub store-requires : goal.store-requires
store-requires c = (omega (arith, c.if-codes-n.false), (some_read _ c.in-Some-count.ensures).held)

pub returns : goal.returns
returns c =
    let a = c.args in
    let h = c.in-Some.ensures in
    let x = reads a.info.now a.place h a.codes.now (some_read _ c.in-Some-count.ensures) c.if-codes-n.false c.read_as.ensures c.store.ensures in
    record { result_value = x.0; codes_after = x.1 }
