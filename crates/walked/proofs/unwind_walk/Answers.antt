-- `walked::unwind_walk` meets its contract.
use Rattle.std.proofs.Common.{length, ap, ◌∙◌}
use Rattle.walked.specs.Entry.{chain_numbers, chain_stored}
use Rattle.walked.proofs.unwind_walk.Goals as goal

pub returns : goal.returns
returns c =
    let e = c.walked.ensures.walked (length c.args.frames.now) in
    record { result_value = rw e c.stored.ensures.result_value; frames_after = rw e c.stored.ensures.out_after }
