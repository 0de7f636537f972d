-- `walked::found_stored` meets its contract.
use borrow.Author.Rules.{rules}
use native.Mathlib.Omega.{arith}
use Rattle.walked.proofs.Entering.{counted, none_found, found_no_room, found_ended, found_refused}
use Rattle.walked.proofs.found_stored.Goals as goal

pub returns-in-Ok : goal.returns-in-Ok
returns-in-Ok c =
    let n = counted c.args.w (search rules) in
    let x = found_no_room c.args.w c.args.out.now c.in-Ok.is (omega (arith, n, c.if-out-w.true)) c.from.ensures in
    record { result_value = x.0; out_after = x.1 }

pub returns-in-Err : goal.returns-in-Err
returns-in-Err c =
    let n = counted c.args.w (search rules) in
    let x = none_found c.args.w c.args.out.now (omega (arith, n, c.if-out-w.true)) c.in-Err.is c.from-in-Err.ensures in
    record { result_value = x.0; out_after = x.1 }

pub returns-in-Ok-ending : goal.returns-in-Ok-ending
returns-in-Ok-ending c =
    let n = counted c.args.w (search rules) in
    let x = found_ended c.args.w c.args.out.now c.in-Ok-ending.is (omega (arith, n, c.if-out-w.false)) c.store.ensures in
    record { result_value = rw c.number.ensures (rw n at x.0); out_after = x.1 }

pub returns-in-Err-ending : goal.returns-in-Err-ending
returns-in-Err-ending c =
    let n = counted c.args.w (search rules) in
    let x = found_refused c.args.w c.args.out.now c.in-Err-ending.is (omega (arith, n, c.if-out-w.false)) c.store.ensures in
    record { result_value = rw c.number-in-Err-ending.ensures (rw n at x.0); out_after = x.1 }
