-- `records::record` meets its contract.
use native.Mathlib.Omega.{arith}
use Prim.Native.Nat.{◌+◌, ◌-◌}
use Rattle.format.proofs.PutLaws.{◌then◌}
use Rattle.headers.proofs.Entries.{closes, closed}
use Rattle.records.proofs.OtherRows.{behind_few, behind_ready}
use Rattle.records.proofs.FieldLaws.{fields_length}
use Rattle.records.proofs.RecordLaws.{record_bytes_lem, record_long}
use borrow.Author.Rules.{rules}
use Rattle.records.proofs.record.Goals as goal

pub fill-a-requires : goal.fill-a-requires
fill-a-requires c = let h = rw (record_long c.args.f.now.debug c.args.f.now.machine.now c.args.f.now.align c.args.at c.args.cie c.args.f.now.extent c.args.f.now.rows.now (behind_few c.others-run.ensures)) at c.requires.1 in search rules

pub overflow_add-at : goal.overflow_add-at
overflow_add-at c = let h = rw (record_long c.args.f.now.debug c.args.f.now.machine.now c.args.f.now.align c.args.at c.args.cie c.args.f.now.extent c.args.f.now.rows.now (behind_few c.others-run.ensures)) at c.requires.1 in search rules

pub overflow_sub-at : goal.overflow_sub-at
overflow_sub-at c = omega (arith, c.requires.0)

pub fields-b-requires : goal.fields-b-requires
fields-b-requires c =
    let h = rw (record_long c.args.f.now.debug c.args.f.now.machine.now c.args.f.now.align c.args.at c.args.cie c.args.f.now.extent c.args.f.now.rows.now (behind_few c.others-run.ensures)) at c.requires.1 in
    let f = fields_length c.args.f.now.debug c.args.f.now.machine.now.word (c.args.at + 4 - c.args.cie) c.args.f.now.extent in
    search rules

pub stepped_rows-c-requires : goal.stepped_rows-c-requires
stepped_rows-c-requires c = (
  behind_ready c.args.f.now.sound c.others-run.ensures,
  let h = rw (record_long c.args.f.now.debug c.args.f.now.machine.now c.args.f.now.align c.args.at c.args.cie c.args.f.now.extent c.args.f.now.rows.now (behind_few c.others-run.ensures)) at c.requires.1 in
      let f = fields_length c.args.f.now.debug c.args.f.now.machine.now.word (c.args.at + 4 - c.args.cie) c.args.f.now.extent in
      rw (c.others-run.ensures.word, c.others-run.ensures.list, c.others-run.ensures.from, c.others-run.ensures.count) (search rules),
)

pub pad-requires : goal.pad-requires
pad-requires c =
    let room = rw (record_bytes_lem c.args.f.now.debug c.args.f.now.machine.now c.args.f.now.align c.args.at c.args.cie c.args.f.now.extent c.args.f.now.rows.now (behind_few c.others-run.ensures)) at c.requires.1 in
    let fits = closes c.args.f.now.align _ (c.fill-a.ensures then c.fields-b.ensures then (rw (c.others-run.ensures.word, c.others-run.ensures.list, c.others-run.ensures.from, c.others-run.ensures.count) at c.stepped_rows-c.ensures)) room in
    (c.args.f.now.aligned, fits.0, fits.1)

pub returns : goal.returns
returns c =
    rw (record_bytes_lem c.args.f.now.debug c.args.f.now.machine.now c.args.f.now.align c.args.at c.args.cie c.args.f.now.extent c.args.f.now.rows.now (behind_few c.others-run.ensures))
    (closed c.args.f.now.align _ (c.fill-a.ensures then c.fields-b.ensures then (rw (c.others-run.ensures.word, c.others-run.ensures.list, c.others-run.ensures.from, c.others-run.ensures.count) at c.stepped_rows-c.ensures)) c.pad.ensures)
