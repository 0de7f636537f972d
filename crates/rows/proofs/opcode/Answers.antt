-- `rows::opcode` meets its contract.
use mathlib.Core.List.{[], append-nil}
use borrow.Author.Rules.{rules}
use Rattle.format.specs.Leb.{uleb}
use Rattle.format.proofs.PutLaws.{◌then◌}
use Rattle.rows.proofs.Bytes.{register_in, register_behind}
use Rattle.rows.proofs.opcode.Goals as goal

pub byte-requires : goal.byte-requires
byte-requires c = let h = simp (register_in c.args.short c.args.long c.args.reg [] c.if-reg-le-MOST_REGISTER_IN_OPCODE.true) at c.requires.1 in search rules

pub returns-then-reg-le-MOST_REGISTER_IN_OPCODE : goal.returns-then-reg-le-MOST_REGISTER_IN_OPCODE
returns-then-reg-le-MOST_REGISTER_IN_OPCODE c = rw (register_in c.args.short c.args.long c.args.reg [] c.if-reg-le-MOST_REGISTER_IN_OPCODE.true) c.byte.ensures

pub byte-a-requires : goal.byte-a-requires
byte-a-requires c = let h = simp (register_behind c.args.short c.args.long c.args.reg [] c.if-reg-le-MOST_REGISTER_IN_OPCODE.false, append-nil (uleb c.args.reg)) at c.requires.1 in search rules

pub uleb-requires : goal.uleb-requires
uleb-requires c = let h = simp (register_behind c.args.short c.args.long c.args.reg [] c.if-reg-le-MOST_REGISTER_IN_OPCODE.false, append-nil (uleb c.args.reg)) at c.requires.1 in search rules

pub returns : goal.returns
returns c = rw (register_behind c.args.short c.args.long c.args.reg [] c.if-reg-le-MOST_REGISTER_IN_OPCODE.false, append-nil (uleb c.args.reg)) (c.byte-a.ensures then (rw c.from.ensures at c.uleb.ensures))
