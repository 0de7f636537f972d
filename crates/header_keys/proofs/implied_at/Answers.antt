-- `header_keys::implied_at` meets its contract.
use Rattle.header_keys.proofs.Calls.{below_fits, frame_row, return_row}
use Rattle.header_keys.proofs.implied_at.Goals as goal

pub returns-then-i-eq0 : goal.returns-then-i-eq0
returns-then-i-eq0 c =
    frame_row c.args.m.now c.requires.0 c.args.i c.if-i-eq0.true

pub overflow_sub-result : goal.overflow_sub-result
overflow_sub-result c =
    below_fits c.args.m.now.pushed c.requires.0.pushed_small

pub returns : goal.returns
returns c =
    return_row c.args.m.now c.requires.0 c.args.i c.if-i-eq0.false c.requires.1
