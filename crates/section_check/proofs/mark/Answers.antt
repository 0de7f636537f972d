-- `section_check::mark` meets its contract.
use Rattle.section_check.proofs.Pass.{no_stretch, mark_kept, mark_set}
use Rattle.section_check.proofs.mark.Goals as goal
use Rattle.section_check.proofs.mark.Goals.{else-i-marks-via-then-i-marks+else-marks-i-eq0, else-i-marks-via-else-i-marks}

pub returns-then-marks-i-eq0 : goal.returns-then-marks-i-eq0
returns-then-marks-i-eq0 c = mark_set c.args.marks.now c.args.step c.args.at c.if-i-marks.true c.if-marks-i-eq0.true

pub returns-else-i-marks : goal.returns-else-i-marks
returns-else-i-marks c =
    elim c.else-i-marks.branch [
      | else-i-marks-via-then-i-marks+else-marks-i-eq0 w ↦ mark_kept c.args.marks.now c.args.step c.args.at w.if-i-marks.true w.if-marks-i-eq0.false
      | else-i-marks-via-else-i-marks w ↦ no_stretch c.args.marks.now c.args.step c.args.at w.if-i-marks.false
    ]
