-- `fill_by` stores N zeros a turn.
use mathlib.Core.Path.{◌≡◌}
use Prim.Native.Nat.{◌+◌, ◌*◌, ◌≤◌}
use native.Mathlib.Omega.{arith}
use lib.ListN.{length, replicate}
use borrow.Author.Rules.{rules}
use Rattle.std.proofs.Math.Nat.{mul-div-le}
use Rattle.leb.proofs.Zeros.{nothing, more}
use Rattle.leb.proofs.fill_by.Goals as goal

pub loop-turn-init : goal.loop-turn-init
loop-turn-init g c = nothing (omega arith)

pub loop-turn-preserved : goal.loop-turn-preserved
loop-turn-preserved g c =
    let turns : g.row.N * (c.loop-turn.turn + 1) ≡ g.row.N * c.loop-turn.turn + g.row.N = grind arith in
    let room : c.args.at + g.row.N * c.loop-turn.turn + g.row.N ≤ length c.loop-turn.out = grind (arith, mul-div-le c.args.n g.row.N, c.loop-turn.invariant.same_size) in
    let z : c.fill.new.self ≡ replicate g.row.N 0 = grind (arith, c.fill.ensures.after (λ y h. search rules)) in
    more g.row.N (g.row.N * (c.loop-turn.turn + 1)) _ c.loop-turn.invariant z (omega arith) room turns
