-- `dwarf::all_asks` meets its contract.
use Rattle.std.proofs.Common.{sym, ◌∙◌}
use Rattle.std.proofs.lemmas.Result.{err_from_is_err_and}
use mathlib.Core.Path.{ap}
use Rattle.format.specs.Coded.{numbered_at}
use Rattle.dwarf.proofs.Asking.{start, turn, stopped, ended}
use Rattle.dwarf.proofs.all_asks.Goals as goal

pub loop-k-init : goal.loop-k-init
loop-k-init c = start _ _ _

pub dwarf_asks-requires : goal.dwarf_asks-requires
dwarf_asks-requires c = rw c.function-e.ensures (c.requires.each_one _ (rw c.count-n.ensures at c.loop-k-test.true))

pub returns-in_err-dwarf_asks : goal.returns-in_err-dwarf_asks
returns-in_err-dwarf_asks c =
    let p = err_from_is_err_and c.from_residual.result c.from_residual.ensures.1 in
    rw (p.1, p.2)
    (sym (ap numbered_at c.in_err-dwarf_asks.was) ∙ rw c.count-n.ensures at (stopped c.loop-k.invariant c.loop-k-test.true (rw c.function-e.ensures at c.dwarf_asks.ensures) (ap numbered_at c.in_err-dwarf_asks.was)))

pub loop-k-preserved : goal.loop-k-preserved
loop-k-preserved c = turn c.loop-k.invariant c.loop-k-test.true (rw c.function-e.ensures at c.dwarf_asks.ensures) (ap numbered_at c.in_ok-dwarf_asks.was)

pub returns : goal.returns
returns c = rw c.count-n.ensures at (ended c.loop-k.invariant c.loop-k-test.false)
