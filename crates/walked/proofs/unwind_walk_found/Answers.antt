-- `walked::unwind_walk_found` meets its contract.
use Rattle.std.proofs.Common.{length}
use Rattle.walked.specs.Entry.{found_answer, found_left}
use Rattle.walked.proofs.Entering.{finds_as}
use Rattle.walked.proofs.unwind_walk_found.Goals as goal

pub returns : goal.returns
unfolding found_answer found_left
returns c =
    let x = finds_as c.walked.result c.args.frames.now (c.walked.ensures.walked (length c.args.frames.now)) c.walked.ensures.found (c.found_stored.ensures.result_value, c.found_stored.ensures.out_after) in
    record { result_value = x.0; frames_after = x.1 }
