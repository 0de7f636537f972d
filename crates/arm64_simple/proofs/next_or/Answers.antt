-- `arm64_simple::next_or` meets its contract.
use mathlib.Core.Path.{sym, ap, ◌∙◌}
use Rattle.arm64.specs.Runs.{same_code}
use Rattle.arm64_simple.proofs.OneCode.{same_is, or_other, or_next, or_same}
use Rattle.arm64_simple.proofs.next_or.Goals as goal

pub returns-then-c-ne-REGP : goal.returns-then-c-ne-REGP
returns-then-c-ne-REGP c = or_other c.args.b c.args.c c.if-c-ne-REGP.true

pub returns-then-eq : goal.returns-then-eq
returns-then-eq c = c.new.ensures ∙ or_next c.args.b c.args.c c.if-c-ne-REGP.false (ap (λ x. same_code x c.args.c) (sym c.next_pair.ensures) ∙ sym (same_is _ c.args.c) ∙ sym c.if-eq.ensures)

pub returns : goal.returns
returns c = or_same c.args.b c.args.c c.if-c-ne-REGP.false (ap (λ x. same_code x c.args.c) (sym c.next_pair.ensures) ∙ sym (same_is _ c.args.c) ∙ sym c.if-eq.ensures)
