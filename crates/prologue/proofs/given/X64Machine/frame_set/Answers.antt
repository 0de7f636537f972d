-- `given::X64Machine::frame_set` meets its contract.
use mathlib.Core.Path.{sym, ap, ◌∙◌}
use native.Mathlib.Omega.{arith}
use borrow.Author.Tests.{eq-eqb, ne_eqb}
use Rattle.std.specs.Prelude.{Ok}
use Rattle.rows.proofs.Signs.{same_bits}
use Rattle.prologue.proofs.Frames.{set_other, set_moved, set_yes}
use Rattle.prologue.proofs.given.X64Machine.frame_set.Goals as goal

pub returns-then-reg-self : goal.returns-then-reg-self
returns-then-reg-self c = rw (← set_other c.args.self.now.machine.now c.args.reg c.args.w c.args.z c.if-reg-self.true)

pub returns-then-z-w : goal.returns-then-z-w
returns-then-z-w c =
    let e = sym (same_bits c.args.z c.args.w.below c.ranges.z.sfits (omega (arith, c.struct_told-1.given))) ∙ ne_eqb _ _ c.if-z-w.true in
    rw (← set_moved c.args.self.now.machine.now c.args.reg c.args.w c.args.z e)

pub returns : goal.returns
returns c =
    let e = sym (same_bits c.args.z c.args.w.below c.ranges.z.sfits (omega (arith, c.struct_told-1.given))) ∙ eq-eqb _ _ c.if-z-w.false in
    rw (← set_yes c.args.self.now.machine.now c.args.reg c.args.w c.args.z c.if-reg-self.false e) (ap Ok c.framed.ensures)
