-- `rows::saved` meets its contract.
use lib.ListN.{length-append}
use borrow.Author.Rules.{rules}
use Rattle.format.proofs.PutLaws.{◌then◌}
use Rattle.leb.proofs.Signs.{same_cast}
use Rattle.rows.proofs.Bytes.{saved_above, saved_below}
use Rattle.rows.proofs.saved.Goals as goal

pub named-a-requires : goal.named-a-requires
named-a-requires c = let h = simp (saved_above c.args.reg c.args.z c.ranges.z c.if-z-lt0.true, length-append) at c.requires in search rules

pub sleb-requires : goal.sleb-requires
sleb-requires c = let h = simp (saved_above c.args.reg c.args.z c.ranges.z c.if-z-lt0.true, length-append) at c.requires in search rules

pub returns-then-z-lt0 : goal.returns-then-z-lt0
returns-then-z-lt0 c = rw (saved_above c.args.reg c.args.z c.ranges.z c.if-z-lt0.true) (c.named-a.ensures then c.sleb.ensures)

pub opcode-a-requires : goal.opcode-a-requires
opcode-a-requires c = let h = simp (saved_below c.args.reg c.args.z c.ranges.z c.if-z-lt0.false, length-append) at c.requires in search rules

pub overflow_cast-z : goal.overflow_cast-z
overflow_cast-z c = same_cast c.args.z c.ranges.z c.if-z-lt0.false

pub uleb-requires : goal.uleb-requires
uleb-requires c = let h = simp (saved_below c.args.reg c.args.z c.ranges.z c.if-z-lt0.false, length-append) at c.requires in search rules

pub returns : goal.returns
returns c = rw (saved_below c.args.reg c.args.z c.ranges.z c.if-z-lt0.false) (c.opcode-a.ensures then c.uleb.ensures)
