-- `codes::frame_no` meets its contract.
use native.Mathlib.Omega.{arith}
use Rattle.format.specs.X64.{frame_no}
use Rattle.rows.proofs.Signs.{passed}
use Rattle.codes.proofs.Questions.{no_frame}
use Rattle.codes.proofs.frame_no.Goals as goal

pub returns-in_default : goal.returns-in_default
returns-in_default c = (no_frame c.args.code c.in_default.not-Frame).0

pub returns : goal.returns
unfolding frame_no
returns c = rw c.in-Frame.is (rw (passed c.in-Frame.z (omega arith)) at c.frame_offset_no.ensures)
