-- `numbers::largest` meets its contract.
use Rattle.std.proofs.Common.{◌*◌, ◌-◌, arith}
use Rattle.numbers.proofs.Powers.{shifted}
use Rattle.numbers.proofs.largest.Goals as goal

pub returns : goal.returns
returns c = let n = c.args.bytes in shifted (8 * n) (64 - 8 * n) (omega arith)
