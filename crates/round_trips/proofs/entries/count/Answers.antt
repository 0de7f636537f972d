-- `round_trips::entries::count` meets its contract.
use Rattle.std.proofs.Common.{refl, ap, arith}
use Rattle.std.proofs.lemmas.Result.{err_from_is_err_and}
use Rattle.format.specs.Coded.{result_of}
use Rattle.format.specs.Prelude.{Result}
use Prim.Native.Nat.{ℕ}
use Rattle.round_trips.proofs.Cursor.{gave, refused, counting, counted_one, counted_all, uncounted}
use Rattle.round_trips.proofs.entries.count.Goals as goal

pub loop-cursor-init : goal.loop-cursor-init
loop-cursor-init c = rw (c.new-cursor.ensures.0, c.new-cursor.ensures.1) (counting c.args.section.now, refl)

pub returns-in_err-entry : goal.returns-in_err-entry
returns-in_err-entry c =
    let i = c.loop-cursor.invariant in
    let p = err_from_is_err_and c.from_residual.result c.from_residual.ensures.1 in
    rw (p.1, p.2) (ap (λ (x : Result ℕ). result_of x) (uncounted i.0 c.loop-cursor-test.true (refused c.next.ensures i.1 c.in_err-entry.was)))

pub loop-cursor-smaller : goal.loop-cursor-smaller
loop-cursor-smaller c =
    let k = gave c.next.ensures c.loop-cursor.invariant.1 c.in_ok-entry.was in
    omega (arith, k.ahead, k.inside)

pub loop-cursor-preserved : goal.loop-cursor-preserved
loop-cursor-preserved c =
    let i = c.loop-cursor.invariant in
    (counted_one i.0 (gave c.next.ensures i.1 c.in_ok-entry.was), i.1)

pub returns : goal.returns
returns c = ap (λ (x : Result ℕ). result_of x) (counted_all c.loop-cursor.invariant.0 c.loop-cursor-test.false)
