-- `reads::rules_of` meets its contract.
use Rattle.std.proofs.lemmas.Result.{err_from_is_err_and}
use Rattle.reads.proofs.Placing.{rules_refused, rules_there, same_rules}
use Rattle.std.proofs.Common.{◌∙◌}
use Rattle.reads.proofs.rules_of.Goals as goal

pub returns-then-l-ne0 : goal.returns-then-l-ne0
returns-then-l-ne0 c = rules_refused _ _ _ _ c.if-l-ne0.true

pub returns-in_err-rules : goal.returns-in_err-rules
returns-in_err-rules c =
    let p = err_from_is_err_and c.from_residual.result c.from_residual.ensures.1 in
    rw (p.1, p.2) (c.in_err-rules.ensures ∙ same_rules _ _ _ c.from.ensures ∙ rules_there c.args.section.now c.args.l c.args.q c.args.p c.if-l-ne0.false)

pub returns : goal.returns
returns c = c.in_ok-rules.ensures ∙ same_rules _ _ _ c.from.ensures ∙ rules_there c.args.section.now c.args.l c.args.q c.args.p c.if-l-ne0.false
