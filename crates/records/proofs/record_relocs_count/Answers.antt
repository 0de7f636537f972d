-- `records::record_relocs_count` meets its contract.
use native.Mathlib.Omega.{arith}
use mathlib.Core.Path.{sym, ◌∙◌}
use Rattle.records.proofs.OtherRows.{behind_few, behind_ready}
use Rattle.records.proofs.RelocLaws.{plain_count, relaxed_count}
use Rattle.records.proofs.record_relocs_count.Goals as goal

pub returns-in_default : goal.returns-in_default
returns-in_default c = c.field_relocs_count-n.ensures.0 ∙ sym (plain_count c.args.f.now.debug c.args.f.now.machine.now 0 0 0 c.args.f.now.extent c.args.f.now.rows.now c.args.pairs.now c.in_default.is)

pub of-requires : goal.of-requires
of-requires c = rw c.in-Some.is at c.requires

pub step_relocs_count-requires : goal.step_relocs_count-requires
step_relocs_count-requires c =
    (behind_ready c.args.f.now.sound c.others.ensures).few

pub overflow_add-result : goal.overflow_add-result
overflow_add-result c = omega (arith, c.field_relocs_count-n.ensures.1, c.step_relocs_count.ensures.1, c.args.f.now.sound.few)

pub returns : goal.returns
returns c = rw (relaxed_count c.args.f.now.debug c.args.f.now.machine.now 0 0 0 c.args.f.now.extent c.args.f.now.rows.now c.args.pairs.now (behind_few c.others.ensures) c.in-Some.is) (omega (arith, c.field_relocs_count-n.ensures.0, rw (c.others.ensures.list, c.others.ensures.from, c.others.ensures.count, c.of.ensures.pairs) at c.step_relocs_count.ensures.0))
