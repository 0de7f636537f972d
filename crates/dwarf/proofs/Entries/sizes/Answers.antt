-- `dwarf::Entries::sizes` meets its contract.
use native.Mathlib.Omega.{arith}
use Rattle.dwarf.proofs.Sizing.{is_nothing, start, next, turn, ended, owned_to}
use Rattle.dwarf.proofs.Owners.{looked}
use Rattle.dwarf.proofs.Entries.sizes.Goals as goal

pub loop-k-init : goal.loop-k-init
loop-k-init c = rw (is_nothing {t = c.default-t.result} c.default-t.ensures, c.count-n.ensures) (start _)

pub rows_size-size-requires : goal.rows_size-size-requires
rows_size-size-requires c =
    let h = next c.loop-k.invariant c.args.self.now.cleared c.loop-k-test.true in
    (omega (arith, h.writable.listed.within), h.writable.sound)

pub size_next-t-requires : goal.size_next-t-requires
size_next-t-requires c =
    (next c.loop-k.invariant c.args.self.now.cleared c.loop-k-test.true, looked _ c.from-o.ensures (owned_to (omega (arith, c.loop-k-test.true, c.loop-k.invariant.counted)) c.args.self.now.owned), c.rows_size-size.ensures)

pub loop-k-preserved : goal.loop-k-preserved
loop-k-preserved c = turn c.loop-k.invariant c.loop-k-test.true c.size_next-t.ensures

pub returns : goal.returns
returns c = ended c.loop-k.invariant c.loop-k-test.false
