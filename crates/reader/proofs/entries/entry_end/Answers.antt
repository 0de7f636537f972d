-- `reader::entries::entry_end` meets its contract.
use mathlib.Core.Path.{sym, ◌∙◌}
use Rattle.reader.proofs.Tiling.{end_none, body_inside, end_short, end_over, end_there}
use Rattle.reader.proofs.entries.entry_end.Goals as goal

pub returns-in_err-n : goal.returns-in_err-n
returns-in_err-n c = c.from_residual.ensures ∙ sym (end_none c.args.s.now c.args.at (rw c.from.ensures at (sym c.read_le.ensures ∙ c.in_err-n.was)))

pub returns-then-n-lt4 : goal.returns-then-n-lt4
returns-then-n-lt4 c = sym (end_short c.args.s.now c.args.at (rw c.from.ensures at (sym c.read_le.ensures ∙ c.in_ok-n.was)) c.if-n-lt4.true)

pub overflow_sub-s : goal.overflow_sub-s
overflow_sub-s c = body_inside c.args.s.now c.args.at (rw c.from.ensures at (sym c.read_le.ensures ∙ c.in_ok-n.was))

pub returns-then-s-from : goal.returns-then-s-from
returns-then-s-from c = sym (end_over c.args.s.now c.args.at (rw c.from.ensures at (sym c.read_le.ensures ∙ c.in_ok-n.was)) c.if-n-lt4.false c.if-s-from.true)

pub returns : goal.returns
returns c = sym (end_there c.args.s.now c.args.at (rw c.from.ensures at (sym c.read_le.ensures ∙ c.in_ok-n.was)) c.if-n-lt4.false c.if-s-from.false)
