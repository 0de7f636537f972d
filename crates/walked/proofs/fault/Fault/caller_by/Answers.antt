-- `fault::Fault::caller_by` meets its contract.
use mathlib.Core.Path.{◌∙◌}
use Rattle.std.proofs.lemmas.Result.{err_from_is_err_and}
use Rattle.walked.proofs.Rules.{caller_by, caller_no}
use Rattle.walked.proofs.fault.Fault.caller_by.Goals as goal

pub returns-in_err-located : goal.returns-in_err-located
returns-in_err-located c =
    let z = c.args in
    let p = err_from_is_err_and c.from_residual.result c.from_residual.ensures.1 in
    rw (p.1, p.2) (caller_no z.self.now.section.bytes.now z.self.now.section.relocations.now z.self.now.section.kind z.holder.position z.holder.offset z.self.now.machine _ _ c.in_err-located.ensures)

pub returns : goal.returns
returns c =
    let z = c.args in
    c.caller.ensures ∙ caller_by z.self.now.section.bytes.now z.self.now.section.relocations.now z.self.now.section.kind z.holder.position z.holder.offset z.self.now.machine _ _ c.in_ok-located.ensures
