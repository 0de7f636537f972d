-- `machines::store` meets its contract.
use mathlib.Core.Path.{◌≡◌}
use native.Mathlib.Omega.{arith}
use lib.ListN.{length}
use borrow.Author.Rules.{rules}
use Rattle.machines.proofs.Filled.{short, filled}
use Rattle.machines.proofs.store.Goals as goal

pub returns-then-machine-lt-STRIDE : goal.returns-then-machine-lt-STRIDE
returns-then-machine-lt-STRIDE c = short c.args.m _ (search rules) c.number.ensures (search rules)

pub returns : goal.returns
returns c =
    let l : length c.args.m.map ≡ 64 = search rules in
    filled c.args.m l (omega (arith, c.if-machine-lt-STRIDE.false)) c.fields-a.ensures c.map.ensures
