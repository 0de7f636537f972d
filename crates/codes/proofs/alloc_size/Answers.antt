-- `codes::alloc_size` meets its contract.
use Rattle.format.proofs.Choice.{if-le, if-gt, either}
use Prim.Native.Nat.{suc, ◌/◌, ◌<◌}
use Rattle.codes.proofs.Forms.{ok_holds, not_ok}
use native.Mathlib.Omega.{arith}
use Rattle.codes.specs.Codes.{alloc_size}
use Rattle.codes.proofs.alloc_size.Goals as goal

pub returns-then-size-le128 : goal.returns-then-size-le128
unfolding alloc_size
returns-then-size-le128 c = let h = c.if-size-le128.true in rw (if-le c.args.size 128)

pub returns-then-is_ok : goal.returns-then-is_ok
unfolding alloc_size
returns-then-is_ok c =
    let h = c.if-size-le128.false in
    let l = ok_holds c.try_from.result (c.args.size / 8) c.if-is_ok.ensures.value c.try_from.ensures in
    rw (if-gt c.args.size 128, if-le (suc (c.args.size / 8)) 65536)

pub returns : goal.returns
unfolding alloc_size
returns c =
    let n = c.args.size / 8 in
    let h = c.if-size-le128.false in
    let l : 65536 < suc n = either 65536 n (λ g. omega arith) (λ g. absurd (not_ok c.try_from.result n c.if-is_ok.ensures.value c.try_from.ensures g)) in
    rw (if-gt c.args.size 128, if-gt (suc n) 65536)
