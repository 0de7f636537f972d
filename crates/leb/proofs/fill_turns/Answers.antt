-- `fill_turns` stores zeros four in a turn, then singly, and counts its turns.
use mathlib.Core.Path.{◌≡◌}
use Prim.Native.Nat.{◌-◌, ◌*◌}
use native.Mathlib.Omega.{arith}
use Rattle.leb.proofs.Zeros.{behind}
use Rattle.leb.proofs.fill_turns.Goals as goal

pub returns : goal.returns
returns c =
    let fours = 4 * c.fill_by-fours.result in
    let e : 1 * c.fill_by-ones.result ≡ c.args.n - fours = omega arith in
    (omega arith, behind fours c.args.n (omega arith) c.fill_by-fours.ensures.1 (rw e at c.fill_by-ones.ensures.1))
