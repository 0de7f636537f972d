-- `dwarf::Entries::store` meets its contract.
use Rattle.lists.proofs.Lent.{same, then}
use Rattle.dwarf.proofs.Sizing.{is_nothing}
use Rattle.dwarf.proofs.Writing.{start, ready, turn, ended}
use Rattle.dwarf.proofs.Entries.store.Goals as goal

pub loop-k-init : goal.loop-k-init
loop-k-init c = (rw (is_nothing {t = c.default-t.result} c.default-t.ensures, c.count-functions.ensures) (start _ c.requires), same)

pub part-t-requires : goal.part-t-requires
part-t-requires c =
    let g = c.loop-k.invariant.0 in
    ready g c.args.self.now.cleared c.loop-k-test.true

pub loop-k-preserved : goal.loop-k-preserved
loop-k-preserved c =
    (turn c.loop-k.invariant.0 c.loop-k-test.true c.part-t.ensures.0, then c.loop-k.invariant.1 c.part-t.ensures.1)

pub returns : goal.returns
returns c = (ended c.loop-k.invariant.0 c.loop-k-test.false, c.loop-k.invariant.1)
