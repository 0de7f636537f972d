-- `x64_reader::large_bytes` meets its contract.
use Rattle.format.specs.Prelude.{pick}
use Rattle.format.specs.X64Reader.{operand_bytes}
use borrow.Author.Tests.{ne_eqb}
use Rattle.x64_reader.proofs.large_bytes.Goals as goal

pub returns-in-0 : goal.returns-in-0
unfolding operand_bytes pick
returns-in-0 c = rw c.in-0.is

pub returns-in-1 : goal.returns-in-1
unfolding operand_bytes pick
returns-in-1 c = rw c.in-1.is

pub returns-in_default : goal.returns-in_default
unfolding operand_bytes pick
returns-in_default c = let k = c.args.info in let n = c.in_default.in_default-own.rest in simp (ne_eqb k 0 n.0.1, ne_eqb k 1 n.1)
