-- `reader::cursor::entry_at` meets its contract.
use mathlib.Core.Path.{sym, ap, ◌∙◌}
use native.Mathlib.Omega.{arith}
use Rattle.format.specs.Coded.{result_of}
use Rattle.reader.proofs.Tiling.{entered}
use Rattle.reader.proofs.Steps.{at_end_lem, at_none, at_there}
use Rattle.reader.proofs.cursor.entry_at.Goals as goal

pub returns-then-section-at : goal.returns-then-section-at
returns-then-section-at c = ap result_of (sym (at_end_lem c.args.debug c.args.section.now c.args.at c.if-section-at.true))

pub returns-in_default : goal.returns-in_default
returns-in_default c =
    ap result_of (sym (at_none c.args.debug c.args.section.now c.args.at c.if-section-at.false (sym c.entry_end.ensures ∙ c.in_default.is)))

pub is_header-header-requires : goal.is_header-header-requires
is_header-header-requires c =
    let a = entered c.args.section.now c.args.at (sym c.entry_end.ensures ∙ c.in-Some.is) in
    (a.long, a.inside)

pub overflow_sub-result : goal.overflow_sub-result
overflow_sub-result c =
    omega (arith, (entered c.args.section.now c.args.at (sym c.entry_end.ensures ∙ c.in-Some.is)).long)

pub returns : goal.returns
returns c =
    rw c.is_header-header.ensures
    (ap result_of (sym (at_there c.args.debug c.args.section.now c.args.at c.if-section-at.false (sym c.entry_end.ensures ∙ c.in-Some.is))))
