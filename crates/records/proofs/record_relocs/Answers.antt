-- `records::record_relocs` meets its contract.
use native.Mathlib.Omega.{arith}
use Rattle.format.proofs.PutLaws.{◌then◌}
use Rattle.records.proofs.OtherRows.{behind_few, behind_ready}
use Rattle.records.proofs.RelocLaws.{field_room, relocs_plain, relaxed_numbers, relaxed_room}
use Rattle.records.proofs.record_relocs.Goals as goal

pub field_relocs-a-requires : goal.field_relocs-a-requires
field_relocs-a-requires c = omega (arith, field_room c.args.f.now.debug c.args.f.now.machine.now c.args.p.now.at c.args.p.now.cie c.args.p.now.table c.args.f.now.extent c.args.f.now.rows.now c.args.pairs.now, c.requires.1)

pub returns-in_default : goal.returns-in_default
returns-in_default c = rw (relocs_plain c.args.f.now.debug c.args.f.now.machine.now c.args.p.now.at c.args.p.now.cie c.args.p.now.table c.args.f.now.extent c.args.f.now.rows.now c.args.pairs.now c.in_default.is) c.field_relocs-a.ensures

pub overflow_add-place : goal.overflow_add-place
overflow_add-place c = omega (arith, c.args.p.now.low)

pub overflow_add-place-2 : goal.overflow_add-place-2
overflow_add-place-2 c = omega (arith, c.args.p.now.low, c.fields_size.ensures.1)

pub step_relocs-requires : goal.step_relocs-requires
step_relocs-requires c = (
  behind_ready c.args.f.now.sound c.others.ensures,
  omega (arith, c.args.p.now.low, c.fields_size.ensures.1),
  let room = relaxed_room c.args.f.now.debug c.args.f.now.machine.now c.args.p.now.at c.args.p.now.cie c.args.p.now.table c.args.f.now.extent c.args.f.now.rows.now c.args.pairs.now (behind_few c.others.ensures) c.in-Some.is in
      rw (c.others.ensures.word, c.others.ensures.list, c.others.ensures.from, c.others.ensures.count, c.fields_size.ensures.0, c.of.ensures.pairs) (omega (arith, c.requires.1, c.field_relocs-a.ensures.past)),
)

pub returns : goal.returns
returns c =
    rw (relaxed_numbers c.args.f.now.debug c.args.f.now.machine.now c.args.p.now.at c.args.p.now.cie c.args.p.now.table c.args.f.now.extent c.args.f.now.rows.now c.args.pairs.now (behind_few c.others.ensures) c.in-Some.is)
    (c.field_relocs-a.ensures then (rw (c.others.ensures.word, c.others.ensures.list, c.others.ensures.from, c.others.ensures.count, c.fields_size.ensures.0, c.of.ensures.pairs) at c.step_relocs.ensures))
