-- `records::others` is a run of a function's rows.
use mathlib.Core.Path.{refl, ap}
use Prim.Native.Nat.{◌+◌, ◌-◌}
use native.Mathlib.Omega.{arith}
use Rattle.records.proofs.OtherRows.{others_ready}
use Rattle.records.proofs.others.Goals as goal

pub ahead-k-requires : goal.ahead-k-requires
ahead-k-requires c = c.args.f.now.sound.ready

pub overflow_add-result : goal.overflow_add-result
overflow_add-result c = omega (arith, c.args.f.now.sound.ready.inside, c.ahead-k.ensures.1)

pub overflow_sub-left : goal.overflow_sub-left
overflow_sub-left c = omega (arith, c.ahead-k.ensures.1)

pub invariant_of-result : goal.invariant_of-result
invariant_of-result c =
    record { ready = (others_ready c.args.f.now.extent c.args.f.now.rows.now c.ahead-k.ensures c.args.f.now.sound).ready }

pub returns : goal.returns
returns c =
    let e = c.ahead-k.ensures.0 in
    record {
      word = refl;
      list = refl;
      from = ap (λ k. c.args.f.now.extent.rows_at + k) e;
      count = ap (λ k. c.args.f.now.extent.rows - k) e;
      few = rw (← e) c.ahead-k.ensures.1;
    }
