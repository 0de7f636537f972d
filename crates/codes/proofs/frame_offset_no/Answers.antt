-- `codes::frame_offset_no` meets its contract.
use Rattle.codes.proofs.Questions.{frame_below, frame_far, frame_odd, frame_fits}
use Rattle.codes.proofs.frame_offset_no.Goals as goal
use Rattle.codes.proofs.frame_offset_no.Goals.{then-n-gt240-via-then-n-gt240, then-n-gt240-via-else-n-gt240+then-n-ne0}

pub returns-then-z-lt0 : goal.returns-then-z-lt0
returns-then-z-lt0 c = frame_below c.ranges.z c.if-z-lt0.true

pub returns-then-n-gt240 : goal.returns-then-n-gt240
returns-then-n-gt240 c =
    elim c.then-n-gt240.branch [
      | then-n-gt240-via-then-n-gt240 w ↦ frame_far c.ranges.z c.if-z-lt0.false c.size-n.ensures w.if-n-gt240.true
      | then-n-gt240-via-else-n-gt240+then-n-ne0 w ↦ frame_odd c.ranges.z c.if-z-lt0.false c.size-n.ensures w.if-n-gt240.false w.if-n-ne0.true
    ]

pub returns : goal.returns
returns c = frame_fits c.ranges.z c.if-z-lt0.false c.size-n.ensures c.if-n-gt240.false c.if-n-ne0.false
