-- `reader::fields::record_tail` meets its contract.
use Rattle.reader.proofs.Recorded.{tail_debug, tail_none, tail_counts, tail_short, tail_there}
use Rattle.reader.proofs.fields.record_tail.Goals as goal

pub returns-then-debug : goal.returns-then-debug
returns-then-debug c = tail_debug c.args.s.now c.args.at c.args.debug c.args.pointer c.args.size c.if-debug.true c.requires

pub returns-in_err-start : goal.returns-in_err-start
returns-in_err-start c = rw c.from_residual.ensures (tail_none c.args.s.now c.args.at c.args.debug c.args.pointer c.args.size c.if-debug.false c.counted.ensures c.in_err-start.was)

pub overflow_sub-end : goal.overflow_sub-end
overflow_sub-end c = (tail_counts c.args.s.now c.args.at c.args.debug c.args.pointer c.args.size c.if-debug.false c.counted.ensures c.in_ok-start.was).ordered

pub returns-then-end-from : goal.returns-then-end-from
returns-then-end-from c = tail_short c.args.s.now c.args.at c.args.debug c.args.pointer c.args.size c.if-debug.false c.counted.ensures c.in_ok-start.was c.if-end-from.true

pub returns : goal.returns
returns c = tail_there c.args.s.now c.args.at c.args.debug c.args.pointer c.args.size c.if-debug.false c.counted.ensures c.in_ok-start.was c.if-end-from.false
