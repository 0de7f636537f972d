-- `given::UnwindCodes::moved` meets its contract.
use Rattle.prologue.specs.Pieces.{moved_in}
use Rattle.x64.specs.Listed.{records_in}
use Rattle.x64.specs.Sources.{moved_at}
use Rattle.prologue.proofs.Pieced.{moved_short}
use Rattle.prologue.proofs.Distances.{short_passed}
use mathlib.Core.Path.{refl}
use native.Mathlib.Omega.{arith}
use Rattle.x64.proofs.given.UnwindCodes.moved.Goals as goal

pub returns-in-Codes : goal.returns-in-Codes
unfolding moved_at
returns-in-Codes c = rw (short_passed c.args.self.now.sofar c.args.self.now.short) (simp c.in-Codes.is (refl, c.args.self.now.short))

pub moved-requires : goal.moved-requires
unfolding records_in
moved-requires c =
    let h = rw c.in-ByRows.is at c.requires in
    (omega (arith, h), c.in-ByRows.p.rows.ready.ok c.args.self.now.next (omega arith) h)

pub returns-in-ByRows : goal.returns-in-ByRows
unfolding moved_at records_in
returns-in-ByRows c =
    let h = rw c.in-ByRows.is at c.requires in
    let l = c.in-ByRows.p.rows.rows.now in
    let k = moved_short c.args.self.now.sofar l c.args.self.now.next (c.in-ByRows.p.rows.ready.ok c.args.self.now.next (omega arith) h) c.args.self.now.short in
    let e = rw (short_passed c.args.self.now.sofar c.args.self.now.short) at c.moved.ensures in
    rw (e, short_passed (moved_in c.args.self.now.sofar l c.args.self.now.next) k) (simp c.in-ByRows.is (refl, k))
