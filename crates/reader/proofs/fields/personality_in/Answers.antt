-- `reader::fields::personality_in` meets its contract.
use mathlib.Core.Path.{sym, ◌∙◌}
use Rattle.reader.proofs.Augmentation.{personality_empty, personality_unknown, personality_over, personality_there}
use Rattle.reader.proofs.fields.personality_in.Goals as goal

pub returns-then-s-eq0 : goal.returns-then-s-eq0
returns-then-s-eq0 c = personality_empty c.args.s.now c.args.word c.if-s-eq0.true

pub returns-in_err-n : goal.returns-in_err-n
returns-in_err-n c = rw c.from_residual.ensures (personality_unknown c.args.s.now c.args.word c.if-s-eq0.false (sym c.pointer_size.ensures ∙ c.in_err-n.was))

pub returns-then-s-n : goal.returns-then-s-n
returns-then-s-n c = personality_over c.args.s.now c.args.word c.if-s-eq0.false (sym c.pointer_size.ensures ∙ c.in_ok-n.was) c.if-s-n.true

pub returns : goal.returns
returns c = personality_there c.args.s.now c.args.word c.if-s-eq0.false (sym c.pointer_size.ensures ∙ c.in_ok-n.was) c.if-s-n.false
