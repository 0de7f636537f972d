-- `section_check::unwind_check_section` meets its contract.
use mathlib.Core.Path.{◌∙◌}
use Rattle.section_check.proofs.Says.{with_meaning}
use Rattle.section_check.proofs.unwind_check_section.Goals as goal

pub returns : goal.returns
returns c =
    let m = with_meaning c.args.section.now c.args.word (c.from.ensures ∙ c.check.ensures) in
    record { value = m.0; means = m.1 }
