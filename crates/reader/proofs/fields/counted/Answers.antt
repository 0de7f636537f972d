-- `reader::fields::counted` meets its contract.
use mathlib.Core.Path.{sym, ◌∙◌}
use Rattle.operations.proofs.PositionLaws.{uleb_ahead}
use Rattle.reader.proofs.Augmentation.{counted_none, counted_over, counted_there}
use Rattle.reader.proofs.fields.counted.Goals as goal

pub returns-in_err-n : goal.returns-in_err-n
returns-in_err-n c = rw c.from_residual.ensures (counted_none c.args.s.now c.args.at (sym c.read_uleb.ensures ∙ c.in_err-n.was))

pub overflow_sub-s : goal.overflow_sub-s
overflow_sub-s c = (uleb_ahead c.args.s.now c.args.at (sym c.read_uleb.ensures ∙ c.in_ok-n.was)).1

pub returns-then-s-from : goal.returns-then-s-from
returns-then-s-from c = counted_over c.args.s.now c.args.at (sym c.read_uleb.ensures ∙ c.in_ok-n.was) c.if-s-from.true

pub returns : goal.returns
returns c = counted_there c.args.s.now c.args.at (sym c.read_uleb.ensures ∙ c.in_ok-n.was) c.if-s-from.false
