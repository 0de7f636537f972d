-- `dwarf::Counted::survey` meets its contract.
use native.Mathlib.Omega.{arith}
use Rattle.dwarf.proofs.Surveying.{start, owner_ready, next, turn, enough, ended}
use Rattle.dwarf.proofs.Sizing.{is_nothing}
use Rattle.dwarf.proofs.Owners.{looked}
use Rattle.dwarf.proofs.Counted.survey.Goals as goal

pub loop-k-init : goal.loop-k-init
loop-k-init c = rw (is_nothing {t = c.default-t.result} c.default-t.ensures, c.count-n.ensures) (start _ c.requires)

pub function_surveyed-requires : goal.function_surveyed-requires
function_surveyed-requires c =
    omega (arith, c.loop-k-test.true, c.loop-k.invariant.sizes.counted)

pub returns-in_err-size : goal.returns-in_err-size
returns-in_err-size c = (rw c.from_residual.ensures tt, enough c.loop-k.invariant)

pub find_owner-requires : goal.find_owner-requires
find_owner-requires c = owner_ready c.loop-k.invariant c.loop-k-test.true c.in_ok-size.ensures.0 c.args.self.now.input.now.fits c.args.self.now.sums

pub size_next-t-requires : goal.size_next-t-requires
size_next-t-requires c =
    let b = c.in_ok-size.ensures in
    (next c.loop-k.invariant c.loop-k-test.true b.0 c.args.self.now.input.now.fits c.args.self.now.sums, looked _ c.from-o.ensures c.find_owner.ensures.0.owned, b.1)

pub loop-k-preserved : goal.loop-k-preserved
loop-k-preserved c = turn c.loop-k.invariant c.loop-k-test.true c.in_ok-size.ensures.0 c.size_next-t.ensures (c.find_owner.ensures.0, c.find_owner.ensures.1.links_long, c.find_owner.ensures.1.owners_long)

pub returns : goal.returns
returns c = (ended c.loop-k.invariant c.loop-k-test.false, enough c.loop-k.invariant)
