-- `rows::opcode_size` meets its contract.
use native.Mathlib.Omega.{arith}
use mathlib.Core.List.{[], append-nil}
use borrow.Author.Rules.{rules}
use Rattle.format.specs.Leb.{uleb}
use Rattle.rows.proofs.Bytes.{register_in, register_behind, uleb_ten}
use Rattle.rows.proofs.opcode_size.Goals as goal

pub overflow_add-result : goal.overflow_add-result
overflow_add-result c = let k = uleb_ten c.args.reg (omega arith) in search rules

pub returns-then-reg-gt-MOST_REGISTER_IN_OPCODE : goal.returns-then-reg-gt-MOST_REGISTER_IN_OPCODE
returns-then-reg-gt-MOST_REGISTER_IN_OPCODE c = rw (register_behind 0 0 c.args.reg [] c.if-reg-gt-MOST_REGISTER_IN_OPCODE.true, append-nil (uleb c.args.reg)) (search rules)

pub returns : goal.returns
returns c = rw (register_in 0 0 c.args.reg [] c.if-reg-gt-MOST_REGISTER_IN_OPCODE.false)
