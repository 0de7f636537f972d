-- `x64_reader::operand_bytes` meets its contract.
use Rattle.format.specs.Prelude.{pick}
use Rattle.format.specs.X64Reader.{operand_bytes}
use borrow.Author.Tests.{ne_eqb}
use Rattle.x64_reader.proofs.operand_bytes.Goals as goal

pub returns-in-0 : goal.returns-in-0
unfolding operand_bytes pick
returns-in-0 c = rw c.in-0.is

pub returns-in-1 : goal.returns-in-1
unfolding operand_bytes
returns-in-1 c = rw c.in-1.is c.large_bytes.ensures

pub returns-in-2 : goal.returns-in-2
unfolding operand_bytes pick
returns-in-2 c = rw c.in-2.is

pub returns-in-3 : goal.returns-in-3
unfolding operand_bytes pick
returns-in-3 c = rw c.in-3.is

pub returns-in-4 : goal.returns-in-4
unfolding operand_bytes pick
returns-in-4 c = rw c.in-4.is

pub returns-in-5 : goal.returns-in-5
unfolding operand_bytes pick
returns-in-5 c = rw c.in-5.is

pub returns-in-8 : goal.returns-in-8
unfolding operand_bytes pick
returns-in-8 c = rw c.in-8.is

pub returns-in-9 : goal.returns-in-9
unfolding operand_bytes pick
returns-in-9 c = rw c.in-9.is

pub returns-in_default : goal.returns-in_default
unfolding operand_bytes pick
returns-in_default c = let k = c.args.op in let n = c.in_default.in_default-own.rest in simp (ne_eqb k 0 n.0.0.0.0.0.0.0.1, ne_eqb k 1 n.0.0.0.0.0.0.1, ne_eqb k 2 n.0.0.0.0.0.1, ne_eqb k 3 n.0.0.0.0.1, ne_eqb k 4 n.0.0.0.1, ne_eqb k 5 n.0.0.1, ne_eqb k 8 n.0.1, ne_eqb k 9 n.1)
