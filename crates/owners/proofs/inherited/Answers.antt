-- `owners::inherited` meets its contract.
use Prim.Native.Nat.{◌<◌}
use native.Mathlib.Omega.{arith}
use Rattle.owners.proofs.Sharing.{last_low, last_owns}
use Rattle.owners.proofs.inherited.Goals as goal

pub surely_shares-requires : goal.surely_shares-requires
surely_shares-requires c = (c.requires.0, omega (arith, last_low c.requires.1 (omega arith) c.from-o.ensures))

pub returns-then-surely_shares : goal.returns-then-surely_shares
returns-then-surely_shares c =
    let z : 0 < c.args.k = omega (arith, c.if-k-eq0.false) in
    (last_owns c.requires.1 z c.from-o.ensures (c.surely_shares.ensures c.if-surely_shares.true), last_low c.requires.1 z c.from-o.ensures)
