-- `rules::Order::closes` meets its contract.
use native.Mathlib.Omega.{arith}
use mathlib.Core.Path.{refl}
use Rattle.rules.proofs.Ordering.{none_open, restored}
use Rattle.rules.proofs.Order.closes.Goals as goal

pub returns-in_err-last : goal.returns-in_err-last
returns-in_err-last c =
    rw c.from_residual.ensures (none_open c.args.self c.args.first (omega (arith, c.in_err-last.ensures)))

pub returns : goal.returns
returns c =
    let e = c.in_ok-last.ensures in
    rw c.then_some.ensures (restored c.args.self c.args.first _ refl (rw e.1) e.1 refl (omega (arith, e.0)))
