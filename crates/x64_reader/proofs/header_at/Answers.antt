-- `x64_reader::header_at` meets its contract.
use mathlib.Core.Path.{refl}
use native.Mathlib.Omega.{arith}
use Rattle.x64_reader.proofs.Headers.{no_header, no_version, no_slots, header_there}
use Rattle.x64_reader.proofs.header_at.Goals as goal
use Rattle.x64_reader.proofs.header_at.Goals.{then-size-lt4-via-then-size-lt4, then-size-lt4-via-else-size-lt4+then-size-p, then-size-lt4-via-else-size-lt4+else-size-p+then-info-p-ne1}

pub returns-then-size-lt4 : goal.returns-then-size-lt4
returns-then-size-lt4 c = elim c.then-size-lt4.branch [
  | then-size-lt4-via-then-size-lt4 w ↦ no_header c.args.info.now c.args.place (omega (arith, w.if-size-lt4.true))
  | then-size-lt4-via-else-size-lt4+then-size-p w ↦ no_header c.args.info.now c.args.place (omega (arith, w.if-size-lt4.false, w.if-size-p.true))
  | then-size-lt4-via-else-size-lt4+else-size-p+then-info-p-ne1 w ↦ no_version c.args.info.now c.args.place w.if-info-p-ne1.true
]

pub returns-then-size-p-2 : goal.returns-then-size-p-2
returns-then-size-p-2 c = let a = c.args in no_slots a.info.now a.place (omega arith) c.from-slots.ensures (omega arith)

pub returns : goal.returns
returns c = let a = c.args in header_there a.info.now a.place c.if-info-p-ne1.false c.from-slots.ensures c.from.ensures refl (omega arith)
