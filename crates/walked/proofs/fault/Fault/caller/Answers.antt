-- `fault::Fault::caller` meets its contract.
use mathlib.Core.Path.{sym, ◌∙◌}
use Rattle.std.proofs.lemmas.Result.{err_from_is_err_and}
use Rattle.walked.proofs.Rules.{answered, refused, caller_ruled, caller_unread}
use Rattle.walked.proofs.fault.Fault.caller.Goals as goal

pub returns-in_err-rules : goal.returns-in_err-rules
returns-in_err-rules c =
    let z = c.args in
    let x = z.at in
    let p = err_from_is_err_and c.from_residual.result c.from_residual.ensures.1 in
    rw (p.1, p.2) (caller_unread x.section.now x.located x.p z.self.now.machine _ _ (refused x.section.now x.located z.self.now.machine.ret x.p (sym c.in_err-rules.ensures)))

pub invariant_of-frame : goal.invariant_of-frame
invariant_of-frame c = let x = c.args.at in record { readable = (answered x.section.now x.located c.args.self.now.machine.ret x.p (sym c.in_ok-rules.ensures)).0 }

pub left_by_rules-requires : goal.left_by_rules-requires
left_by_rules-requires c = let x = c.args.at in (answered x.section.now x.located c.args.self.now.machine.ret x.p (sym c.in_ok-rules.ensures)).1

pub returns : goal.returns
returns c =
    let x = c.args.at in
    let g = answered x.section.now x.located c.args.self.now.machine.ret x.p (sym c.in_ok-rules.ensures) in
    c.left_by_rules.ensures ∙ caller_ruled x.section.now x.located x.p c.args.self.now.machine _ _ g.0
