-- `walk::Memory::load` meets its contract.
use Rattle.walk.specs.Standing.{memory_of}
use Rattle.walk.proofs.Leaves.{load_under, load_none, load_is}
use mathlib.Core.Path.{sym, ◌∙◌}
use Rattle.walk.proofs.Memory.load.Goals as goal

pub returns-in_err-checked_sub : goal.returns-in_err-checked_sub
returns-in_err-checked_sub c = c.from_residual.ensures ∙ load_under (memory_of c.args.self.now) _ c.in_err-checked_sub.ensures

pub returns-in_err-v : goal.returns-in_err-v
returns-in_err-v c =
    let h = c.in_ok-checked_sub.ensures in
    c.from_residual-in_err-v.ensures ∙ load_none (memory_of c.args.self.now) _ h.0 (rw (c.from-place.ensures, h.1) at (sym c.in_err-v.ensures))

pub returns : goal.returns
returns c = let h = c.in_ok-checked_sub.ensures in load_is (memory_of c.args.self.now) _ h.0 (rw (c.from-place.ensures, h.1) at (sym c.in_ok-v.ensures))
