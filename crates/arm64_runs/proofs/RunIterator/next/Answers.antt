-- `Run`'s `next` meets its contract.
use Rattle.std.proofs.Common.{rules}
use mathlib.Core.Path.{sym, ap}
use lib.ListN.{length}
use Rattle.format.proofs.Asked.{none_is, value_is}
use Rattle.arm64_runs.proofs.Stores.{never_none, run_next, run_ended}
use Rattle.arm64_runs.proofs.RunIterator.next.Goals as goal

pub returns-in_err-c-clause-steps : goal.returns-in_err-c-clause-steps
returns-in_err-c-clause-steps c = absurd (never_none _ _ c.args.self.now.there (none_is _ (sym c.in_err-c.ensures)))

pub returns-then-c-eq-END-clause-steps : goal.returns-then-c-eq-END-clause-steps
returns-then-c-eq-END-clause-steps c =
    let e = run_ended _ _ c.args.self.now.there (value_is _ (sym c.in_ok-c.ensures)) c.if-c-eq-END.true in (e, e)

pub invariant_of-self : goal.invariant_of-self
invariant_of-self c = record { there = (run_next _ _ c.args.self.now.there (value_is _ (sym c.in_ok-c.ensures)) c.if-c-eq-END.false).0 }

pub returns-clause-steps : goal.returns-clause-steps
returns-clause-steps c = (run_next _ _ c.args.self.now.there (value_is _ (sym c.in_ok-c.ensures)) c.if-c-eq-END.false).1

pub returns-clause-goes : goal.returns-clause-goes
returns-clause-goes c =
    let e = ap length (run_next _ _ c.args.self.now.there (value_is _ (sym c.in_ok-c.ensures)) c.if-c-eq-END.false).1 in search (rules, e)
