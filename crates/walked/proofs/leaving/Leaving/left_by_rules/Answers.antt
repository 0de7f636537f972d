-- `leaving::Leaving::left_by_rules` meets its contract.
use mathlib.Core.Path.{sym, ap, ◌∙◌}
use Rattle.std.proofs.lemmas.Result.{err_from_is_err_and}
use Rattle.format.specs.Coded.{result_of}
use Rattle.format.specs.Rules.{rules_for}
use Rattle.format.specs.declared.Rules.{Rules}
use Rattle.format.specs.Prelude.{onward}
use Rattle.walk.specs.Walk.{undefined, frame_address, left, returned_to}
use Rattle.walk.specs.Standing.{slots, memory_of}
use Rattle.walked.specs.Standing.{rules_at}
use Rattle.walked.proofs.Rules.{caller_none, caller_bad, caller_at}
use Rattle.walked.proofs.leaving.Leaving.left_by_rules.Goals as goal

pub returns-then-undefined : goal.returns-then-undefined
unfolding rules_for
returns-then-undefined c =
    let e = sym (ap (λ (x : Rules). undefined x.rule) c.requires) ∙ sym c.undefined.ensures ∙ c.if-undefined.true in
    caller_none c.args.self.now.machine _ _ _ e

pub returns-in_err-cfa : goal.returns-in_err-cfa
unfolding rules_for
returns-in_err-cfa c =
    let e = sym (ap (λ (x : Rules). undefined x.rule) c.requires) ∙ sym c.undefined.ensures ∙ c.if-undefined.false in
    let f = c.in_err-cfa.ensures ∙ ap (λ (x : Rules). result_of (frame_address x.cfa (slots c.args.self.now.registers))) c.requires in
    let p = err_from_is_err_and c.from_residual.result c.from_residual.ensures.1 in
    rw (p.1, p.2) (caller_bad c.args.self.now.machine _ _ _ e f)

pub returns : goal.returns
unfolding rules_for
returns c =
    let e = sym (ap (λ (x : Rules). undefined x.rule) c.requires) ∙ sym c.undefined.ensures ∙ c.if-undefined.false in
    let f = c.in_ok-cfa.ensures ∙ ap (λ (x : Rules). result_of (frame_address x.cfa (slots c.args.self.now.registers))) c.requires in
    c.resumed.ensures
    ∙ ap (λ (x : Rules). onward (left (memory_of c.args.self.now.memory) c.args.self.now.machine.stack c.in_ok-cfa.cfa (rules_at c.args.self.now.at) (slots c.args.self.now.registers)) (λ ss. returned_to ss c.args.self.now.machine.ret x.signing c.args.self.now.at.located.signal)) c.requires
    ∙ caller_at c.args.self.now.machine _ _ _ e f
