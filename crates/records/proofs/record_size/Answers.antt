-- `records::record_size` meets its contract.
use mathlib.Core.Path.{◌≡◌}
use Prim.Native.Nat.{◌+◌, ◌-◌, ◌*◌, ◌≤◌}
use native.Mathlib.Omega.{arith}
use lib.ListN.{length}
use Rattle.format.proofs.EntryBack.{padding_small}
use Rattle.records.specs.Stepped.{rows_in}
use Rattle.records.proofs.RowLoops.{rows_at_most}
use Rattle.records.specs.Written.{ahead_in}
use Rattle.records.proofs.OtherRows.{others_ready, size_parted, leading_ready, ahead_few}
use Rattle.records.proofs.RecordLaws.{record_long}
use Rattle.records.proofs.record_size.Goals as goal
use Rattle.records.proofs.record_size.Goals.{After-stepped_rows_size}

pub stepped_rows_size-requires : goal.stepped_rows_size-requires
stepped_rows_size-requires c = leading_ready c.args.f.now.sound c.leading.ensures

-- what is left of the size is that of the rows that do not lead
left : (c : After-stepped_rows_size) → (c.stepped_rows_size.result ≤ c.args.size) × (c.args.size - c.stepped_rows_size.result ≤ 14 * c.args.f.now.extent.rows)
left c =
    let q = ahead_few c.leading.ensures in
    let p = size_parted c.args.f.now.extent c.args.f.now.rows.now q c.args.f.now.machine.now.word in
    let l = rows_at_most (others_ready c.args.f.now.extent c.args.f.now.rows.now q c.args.f.now.sound) in
    let s = rw (c.leading.ensures.word, c.leading.ensures.list, c.leading.ensures.from, c.leading.ensures.count) at c.stepped_rows_size.ensures in
    (omega (arith, p, c.requires.1, s), omega (arith, p, l, c.requires.1, s))

pub overflow_sub-body : goal.overflow_sub-body
overflow_sub-body c = omega (arith, (left c).0)

pub overflow_add-body : goal.overflow_add-body
overflow_add-body c = omega (arith, (left c).1, c.fields_size.ensures.1, c.args.f.now.sound.few)

pub overflow_add-result : goal.overflow_add-result
overflow_add-result c = omega (arith, (left c).1, c.fields_size.ensures.1, c.args.f.now.sound.few)

pub overflow_add-at : goal.overflow_add-at
overflow_add-at c = omega (arith, c.requires.0)

pub overflow_add-at-2 : goal.overflow_add-at-2
overflow_add-at-2 c = omega (arith, (left (goal.at.overflow_add-at-2 c).After-stepped_rows_size).1, c.fields_size.ensures.1, c.args.f.now.sound.few, c.requires.0)

pub padding-requires : goal.padding-requires
padding-requires c = c.args.f.now.aligned.some_bytes

pub overflow_add-result-2 : goal.overflow_add-result-2
overflow_add-result-2 c =
    let body = c.fields_size.result + (c.args.size - c.stepped_rows_size.result) in
    omega (arith, (left (goal.at.overflow_add-result-2 c).After-stepped_rows_size).1, c.fields_size.ensures.1, c.args.f.now.sound.few, c.padding.ensures, padding_small c.args.f.now.align (c.args.at + 4 + body) c.args.f.now.aligned.some_bytes, c.args.f.now.aligned.at_most_8)

pub returns : goal.returns
returns c =
    let f = c.args.f.now in
    let q = ahead_few c.leading.ensures in
    let p = size_parted f.extent f.rows.now q f.machine.now.word in
    let s = rw (c.leading.ensures.word, c.leading.ensures.list, c.leading.ensures.from, c.leading.ensures.count) at c.stepped_rows_size.ensures in
    let o : c.args.size - c.stepped_rows_size.result ≡ length (rows_in f.machine.now.word 0 f.rows.now (f.extent.rows_at + ahead_in f) (f.extent.rows - ahead_in f)) = omega (arith, p, c.requires.1, s) in
    rw (record_long f.debug f.machine.now f.align c.args.at 0 f.extent f.rows.now q, ← c.fields_size.ensures.0, ← o)
    (omega (arith, c.padding.ensures))
