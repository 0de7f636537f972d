-- `owners::digest` meets its contract.
use mathlib.Core.Path.{ap, sym, ◌∙◌}
use native.Mathlib.Omega.{arith}
use Rattle.owners.specs.Owners.{leading_in}
use Rattle.owners.specs.Chains.{rows_digest}
use Rattle.owners.proofs.Digests.{start, turn, ended, digest_is}
use Rattle.owners.proofs.digest.Goals as goal

pub leading_count-n-requires : goal.leading_count-n-requires
leading_count-n-requires c = c.requires

pub loop-i-init : goal.loop-i-init
loop-i-init c = start c.leading_count-n.ensures c.kind_number-d.ensures.1

pub leading_at-requires : goal.leading_at-requires
leading_at-requires c =
    (c.args.x.now.fits, c.requires, omega (arith, c.loop-i-test.true, c.loop-i.invariant.counted))

pub mixed-d-requires : goal.mixed-d-requires
mixed-d-requires c = c.loop-i.invariant.small

pub loop-i-preserved : goal.loop-i-preserved
loop-i-preserved c = turn c.loop-i.invariant c.loop-i-test.true c.leading_at.ensures c.mixed-d.ensures

pub returns : goal.returns
returns c =
    ended c.loop-i.invariant c.loop-i-test.false
    ∙ (ap (λ d. rows_digest d (leading_in c.args.x.now.machine c.args.e c.args.x.now.lists.rows.now)) c.kind_number-d.ensures.0
    ∙ sym (digest_is c.args.x.now.machine c.args.e c.args.x.now.lists.rows.now))
