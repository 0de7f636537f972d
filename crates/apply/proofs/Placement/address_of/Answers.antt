-- `Placement::address_of` meets its contract.
use Rattle.std.proofs.Common.{◌*◌, get_or, eq-eqb, arith}
use Rattle.std.specs.Prelude.{Some, None}
use Rattle.apply.proofs.Sums.{address_found}
use Rattle.apply.proofs.Placement.address_of.Goals as goal

pub returns-then-self-i : goal.returns-then-self-i
returns-then-self-i c =
    let i = c.loop-i.i in
    let n = c.args.symbol in
    let xs = c.args.self.now.addresses.now in
    address_found xs n (Some i)
    (omega arith, c.loop-i-test.true, eq-eqb (get_or xs (2 * i) 0) n c.if-self-i.true, λ k l. c.loop-i.invariant k)

pub returns : goal.returns
returns c =
    let a = c.args in
    address_found a.self.now.addresses.now a.symbol None
    (λ k l h. c.loop-i.invariant k (omega (arith, h, c.loop-i-test.false)))
