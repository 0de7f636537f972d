-- `reader::fields::lsda_in` meets its contract.
use mathlib.Core.Path.{sym, ◌∙◌}
use Rattle.reader.proofs.Augmentation.{lsda_empty, lsda_unknown, lsda_there}
use Rattle.reader.proofs.fields.lsda_in.Goals as goal

pub returns-then-s-from : goal.returns-then-s-from
returns-then-s-from c = lsda_empty c.args.s.now c.args.at c.args.word c.if-s-from.true

pub returns-in_err-n : goal.returns-in_err-n
returns-in_err-n c = rw c.from_residual.ensures (lsda_unknown c.args.s.now c.args.at c.args.word c.if-s-from.false (sym c.pointer_size.ensures ∙ c.in_err-n.was))

pub returns : goal.returns
returns c = lsda_there c.args.s.now c.args.at c.args.word c.if-s-from.false (sym c.pointer_size.ensures ∙ c.in_ok-n.was)
