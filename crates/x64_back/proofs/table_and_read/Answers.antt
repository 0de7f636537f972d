-- `x64_back::table_and_read` meets its contract.
use Rattle.format.specs.Questions.{given_of}
use Rattle.x64_back.proofs.SehBack.{rows_together}
use Rattle.x64_back.proofs.table_and_read.Goals as goal

pub returns : goal.returns
returns c =
    let a = c.args in
    let r = c.unwind_read_x64-answer.ensures in
    let w = rw c.from.ensures at c.relaxed_table-outcome.ensures in
    let given = given_of a.machine.now a.functions.now a.rows.now a.landings.now a.pairs.now in
    record {
      writes = w;
      answer_value = rw c.marker_at-place.ensures at r.result_value;
      held_after = rw c.marker_at-place.ensures at r.codes_after;
      read_back = rows_together given a.places.now a.bytes.now a.relocations.now a.sites.now a.held.now a.k w c.marker_at-place.ensures r.result_value r.codes_after;
    }
