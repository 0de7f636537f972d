-- `given::FunctionRows::leading` meets its contract.
use Rattle.prologue.proofs.Rows.{front_ready, front_leads}
use Rattle.prologue.proofs.given.FunctionRows.leading.Goals as goal

pub invariant_of-result : goal.invariant_of-result
invariant_of-result c = record { ready = front_ready c.args.self.now.ready c.before_remember.ensures.0 }

pub returns : goal.returns
returns c = front_leads _ _ c.before_remember.ensures
