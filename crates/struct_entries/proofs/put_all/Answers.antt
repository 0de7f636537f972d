-- `struct_entries::put_all` meets its contract: the first i structs are stored.
use mathlib.Core.Path.{◌≡◌, sym, ap, ◌∙◌}
use Prim.Native.Nat.{◌+◌, ◌*◌}
use native.Mathlib.Omega.{arith}
use native.Mathlib.Numerals.{add-one}
use lib.ListN.{length, take}
use lib.Seq.{take-length}
use Rattle.struct_entries.specs.Packed.{stored, stored_all}
use Rattle.struct_entries.proofs.Stored.{none_yet, next}
use Rattle.struct_entries.proofs.put_all.Goals as goal

pub loop-i-init : goal.loop-i-init
loop-i-init g c = sym (none_yet g.R.Record.meaning c.args.numbers.now c.args.at c.args.records.now)

pub loop-i-preserved : goal.loop-i-preserved
loop-i-preserved g c =
    let r = g.R.Record in
    let a = c.args in
    let i = c.loop-i.i in
    let e = rw c.loop-i.invariant at c.put.ensures in
    rw add-one
    (e ∙ (ap (λ x. stored (stored_all r.meaning a.numbers.now a.at (take i a.records.now)) (a.at + r.STRIDE * i) (r.meaning x)) c.index-records-i.is
    ∙ next r.meaning g.met.R.Record.even a.numbers.now a.at a.records.now i c.index-records-i.result c.loop-i-test.true))

pub returns : goal.returns
returns g c =
    let over : c.loop-i.i ≡ length c.args.records.now = omega arith in
    rw (over, take-length) at c.loop-i.invariant
