-- `reader::fields::field_size` meets its contract.
use Rattle.format.specs.Prelude.{pick}
use Rattle.reader.proofs.fields.field_size.Goals as goal

pub returns-then-debug : goal.returns-then-debug
unfolding pick
returns-then-debug c = simp c.if-debug.true

pub returns-else-debug : goal.returns-else-debug
unfolding pick
returns-else-debug c = simp c.if-debug.false
