-- `cfi_entries::entries::check_entries` meets its contract.
use Rattle.cfi_entries.proofs.EntryLaws.{stopped, stopped_tiled, ended, ended_tiled}
use Rattle.cfi_entries.proofs.entries.check_entries.Goals as goal

pub returns-in-Err-clause-counted : goal.returns-in-Err-clause-counted
returns-in-Err-clause-counted c =
    stopped c.args.debug c.args.s.now c.loop-at.n c.loop-at.at c.loop-at.invariant c.in-Err.refusal c.loop-at-test.true c.in-Err.ensures.value

pub returns-in-Err-clause-tiled : goal.returns-in-Err-clause-tiled
returns-in-Err-clause-tiled c =
    stopped_tiled c.args.debug c.args.s.now c.loop-at.n c.loop-at.at c.loop-at.invariant c.in-Err.refusal c.loop-at-test.true c.in-Err.ensures.value

pub returns-clause-counted : goal.returns-clause-counted
returns-clause-counted c = ended c.args.debug c.args.s.now c.loop-at.n c.loop-at.at c.loop-at.invariant c.loop-at-test.false

pub returns-clause-tiled : goal.returns-clause-tiled
returns-clause-tiled c = ended_tiled c.args.debug c.args.s.now c.loop-at.n c.loop-at.at c.loop-at.invariant c.loop-at-test.false
