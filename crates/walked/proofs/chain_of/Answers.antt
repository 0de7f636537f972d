-- `walked::chain_of` meets its contract.
use mathlib.Core.Path.{◌∙◌}
use lib.Dec.{T}
use Rattle.format.specs.Machine.{machine_ok}
use Rattle.format.proofs.Accepted.{machine_fits}
use Rattle.format.proofs.Choice.{ok_picked, err_picked}
use Rattle.walked.proofs.Entering.{no_machine, other_word, right_word, frames_of_lem, none_asked, none_of_word, found_of_word, found_of_lem}
use Rattle.walked.proofs.chain_of.Goals as goal

pub returns-in-Err : goal.returns-in-Err
returns-in-Err c =
    let h = err_picked _ _ _ c.in-Err.is c.read_machine.ensures in
    record {
      walked = rw (c.refused.ensures.1, h.1) (no_machine c.args.machine.now _ h.0);
      found = c.refused.ensures.0 ∙ none_asked c.args.machine.now _ h.0;
    }

pub returns-then-known-ne8 : goal.returns-then-known-ne8
returns-then-known-ne8 c =
    let h = ok_picked _ _ _ c.in-Ok.is c.read_machine.ensures in
    record {
      walked = rw c.refused-then-known-ne8.ensures.1 (other_word c.args.machine.now _ h.0 c.in-Ok.known h.1 c.if-known-ne8.true);
      found = c.refused-then-known-ne8.ensures.0 ∙ none_of_word c.args.machine.now _ h.0 c.in-Ok.known h.1 c.if-known-ne8.true;
    }

pub invariant_of-fault : goal.invariant_of-fault
invariant_of-fault c =
    let h = ok_picked _ _ _ c.in-Ok.is c.read_machine.ensures in
    let t : T (machine_ok c.args.machine.now) = rw h.0 tt in
    record { named = rw h.1 (machine_fits _ t).ret_small }

pub registers-requires : goal.registers-requires
registers-requires c = c.requires

pub returns : goal.returns
returns c =
    let h = ok_picked _ _ _ c.in-Ok.is c.read_machine.ensures in
    let r = c.registers.ensures in
    record {
      walked = c.frames.ensures.walked ∙ rw r (frames_of_lem _ _ _ _ h.1) ∙ right_word _ _ h.0 c.in-Ok.known h.1 c.if-known-ne8.false;
      found = c.frames.ensures.found ∙ rw r (found_of_lem _ _ _ _ h.1) ∙ found_of_word _ _ h.0 c.in-Ok.known h.1 c.if-known-ne8.false;
    }
