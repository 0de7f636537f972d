-- `records::surveyed_rows` meets its contract.
use Rattle.records.proofs.SurveyLoops.{start, turn, ended}
use Rattle.records.proofs.surveyed_rows.Goals as goal

pub loop-i-init : goal.loop-i-init
loop-i-init c = start c.args.word c.args.rows.now c.args.first c.args.n

pub loop-i-preserved : goal.loop-i-preserved
loop-i-preserved c =
    let r = c.in_ok-size.ensures in
    turn c.loop-i.invariant c.loop-i.auto.i c.loop-i-test.true c.offset_at-from.ensures r.0 r.1

pub returns : goal.returns
returns c = ended c.loop-i.invariant c.loop-i-test.false c.requires.1
