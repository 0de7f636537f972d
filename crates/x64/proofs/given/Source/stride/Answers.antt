-- `given::Source::stride` meets its contract.
use Rattle.x64.specs.Listed.{stride_of}
use Rattle.x64.proofs.given.Source.stride.Goals as goal

pub returns-in-Direct : goal.returns-in-Direct
unfolding stride_of
returns-in-Direct c = rw c.in-Direct.is

pub returns-in-Rows : goal.returns-in-Rows
unfolding stride_of
returns-in-Rows c = rw c.in-Rows.is
