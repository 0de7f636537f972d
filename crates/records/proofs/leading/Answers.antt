-- `records::leading` is a run of a function's rows.
use mathlib.Core.Path.{refl}
use Rattle.records.proofs.OtherRows.{ahead_ready}
use Rattle.records.proofs.leading.Goals as goal

pub ahead-requires : goal.ahead-requires
ahead-requires c = c.args.f.now.sound.ready

pub invariant_of-result : goal.invariant_of-result
invariant_of-result c =
    record { ready = (ahead_ready c.args.f.now.extent c.args.f.now.rows.now c.ahead.ensures c.args.f.now.sound).ready }

pub returns : goal.returns
returns c = record { word = refl; list = refl; from = refl; count = c.ahead.ensures.0; few = rw (← c.ahead.ensures.0) c.ahead.ensures.1 }
