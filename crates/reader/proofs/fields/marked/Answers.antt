-- `reader::fields::marked` meets its contract.
use Rattle.format.specs.Reader.{spelled}
use Rattle.reader.specs.Fields.{two_of}
use Rattle.reader.proofs.Strings.{front_at, trying, missed, met, unmet}
use Rattle.reader.proofs.fields.marked.Goals as goal

pub returns-then-starts_with : goal.returns-then-starts_with
unfolding spelled
returns-then-starts_with c = (met (trying c.args.s.now c.args.at.at (two_of c.args.plain.now c.args.signal.now c.args.personality c.args.lsda)) (front_at c.args.s.now c.args.plain.now c.args.at.at c.starts_with.ensures.value) c.if-starts_with.true c.requires c.args.at.shortest)

pub returns-then-starts_with-2 : goal.returns-then-starts_with-2
unfolding spelled
returns-then-starts_with-2 c = (met (missed (trying c.args.s.now c.args.at.at (two_of c.args.plain.now c.args.signal.now c.args.personality c.args.lsda)) (front_at c.args.s.now c.args.plain.now c.args.at.at c.starts_with.ensures.value) c.if-starts_with.false) (front_at c.args.s.now c.args.signal.now c.args.at.at c.starts_with-2.ensures.value) c.if-starts_with-2.true c.requires c.args.at.shortest)

pub returns : goal.returns
unfolding spelled
returns c = unmet (missed (missed (trying c.args.s.now c.args.at.at (two_of c.args.plain.now c.args.signal.now c.args.personality c.args.lsda)) (front_at c.args.s.now c.args.plain.now c.args.at.at c.starts_with.ensures.value) c.if-starts_with.false) (front_at c.args.s.now c.args.signal.now c.args.at.at c.starts_with-2.ensures.value) c.if-starts_with-2.false)
