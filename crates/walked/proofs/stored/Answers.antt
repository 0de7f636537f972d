-- `walked::stored` meets its contract.
use borrow.Author.Rules.{rules}
use native.Mathlib.Omega.{arith}
use Rattle.walked.proofs.Entering.{counted, refused, no_room, stored}
use Rattle.walked.proofs.stored.Goals as goal

pub returns-in-Err : goal.returns-in-Err
returns-in-Err c =
    let x = refused c.args.w c.args.out.now c.in-Err.is c.from.ensures in
    record { result_value = x.0; out_after = x.1 }

pub returns-then-out-w : goal.returns-then-out-w
returns-then-out-w c =
    let n = counted c.args.w (search rules) in
    let x = no_room c.args.w c.args.out.now c.in-Ok.is (omega (arith, n, c.if-out-w.true)) c.from-then-out-w.ensures in
    record { result_value = x.0; out_after = x.1 }

pub returns : goal.returns
returns c =
    let n = counted c.args.w (search rules) in
    let x = stored c.args.w c.args.out.now c.in-Ok.is (omega (arith, n, c.if-out-w.false)) c.store.ensures in
    record { result_value = rw c.number.ensures (rw n at x.0); out_after = x.1 }
