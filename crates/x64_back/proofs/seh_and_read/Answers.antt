-- `x64_back::seh_and_read` meets its contract.
use Rattle.x64_back.proofs.SehBack.{together}
use Rattle.x64_back.proofs.seh_and_read.Goals as goal

pub returns : goal.returns
returns c =
    let a = c.args in
    let r = c.unwind_read_x64-answer.ensures in
    record {
      writes = c.seh-outcome.ensures;
      answer_value = rw c.marker_at-place.ensures at r.result_value;
      held_after = rw c.marker_at-place.ensures at r.codes_after;
      read_back = together a.functions.now a.codes.now a.markers.now a.bytes.now a.relocations.now a.info.now a.held.now a.k c.seh-outcome.ensures c.marker_at-place.ensures r.result_value r.codes_after;
    }
