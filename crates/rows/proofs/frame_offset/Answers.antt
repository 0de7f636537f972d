-- `rows::frame_offset` meets its contract.
use borrow.Author.Rules.{rules}
use Rattle.leb.proofs.Signs.{same_cast}
use Rattle.rows.proofs.Factors.{signed_bytes, plain_bytes}
use Rattle.rows.proofs.frame_offset.Goals as goal

pub sleb-requires : goal.sleb-requires
sleb-requires c =
    let e = signed_bytes c.args.word.bytes c.args.z c.ranges.z c.if-z-lt0.true c.factored.type_inv c.factored.ensures in
    rw e (search rules)

pub returns-then-z-lt0 : goal.returns-then-z-lt0
returns-then-z-lt0 c =
    let e = signed_bytes c.args.word.bytes c.args.z c.ranges.z c.if-z-lt0.true c.factored.type_inv c.factored.ensures in
    rw e at c.sleb.ensures

pub overflow_cast-z : goal.overflow_cast-z
overflow_cast-z c = same_cast c.args.z c.ranges.z c.if-z-lt0.false

pub uleb-requires : goal.uleb-requires
uleb-requires c =
    let e = plain_bytes c.args.word.bytes c.args.z c.ranges.z c.if-z-lt0.false in
    rw e (search rules)

pub returns : goal.returns
returns c =
    let e = plain_bytes c.args.word.bytes c.args.z c.ranges.z c.if-z-lt0.false in
    rw e at c.uleb.ensures
