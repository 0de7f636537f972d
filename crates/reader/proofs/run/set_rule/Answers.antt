-- `reader::run::set_rule` meets its contract.
use Rattle.format.proofs.Choice.{if-eq, if-ne}
use Rattle.reader.specs.OneRegister.{set_rule}
use Rattle.reader.specs.States.{run_of}
use Rattle.reader.proofs.run.set_rule.Goals as goal

pub returns-then-q-reg : goal.returns-then-q-reg
unfolding run_of set_rule
returns-then-q-reg c = rw (if-eq c.args.q c.args.reg c.args.rule c.args.s.now.rules.rule c.if-q-reg.true)

pub returns-else-q-reg : goal.returns-else-q-reg
unfolding run_of set_rule
returns-else-q-reg c = rw (if-ne c.args.q c.args.reg c.args.rule c.args.s.now.rules.rule c.if-q-reg.false)
