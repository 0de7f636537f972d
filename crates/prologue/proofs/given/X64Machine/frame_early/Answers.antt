-- `given::X64Machine::frame_early` meets its contract.
use mathlib.Core.Path.{sym, ap, ◌∙◌}
use native.Mathlib.Omega.{arith}
use lib.IntN.{pos}
use Prim.Native.Nat.{◌*◌}
use borrow.Author.Tests.{eq-eqb, ne_eqb}
use Rattle.std.specs.Prelude.{Ok}
use Rattle.std.proofs.lemmas.Bool.{not-true, not-false}
use Rattle.rows.proofs.Signs.{same_bits}
use Rattle.prologue.proofs.Counting.{same_pushed}
use Rattle.prologue.proofs.Frames.{early_other, early_more, early_far, early_steps, early_yes}
use Rattle.prologue.proofs.given.X64Machine.frame_early.Goals as goal

pub returns-then-reg-self : goal.returns-then-reg-self
returns-then-reg-self c = rw (← early_other c.args.self.now.machine.now c.args.reg c.args.w c.args.last c.if-reg-self.true)

pub returns-then-not-last : goal.returns-then-not-last
returns-then-not-last c = rw (← early_more c.args.self.now.machine.now c.args.reg c.args.w c.args.last c.if-not-last.true)

pub returns-then-w-self : goal.returns-then-w-self
returns-then-w-self c =
    let e = sym (same_bits c.args.w.below (pos (2 * c.args.self.now.machine.now.word)) (omega (arith, c.struct_told-1.given)) (omega arith)) ∙ ne_eqb _ _ c.if-w-self.true in
    rw (← early_far c.args.self.now.machine.now c.args.reg c.args.w c.args.last e)

pub returns-then-ne : goal.returns-then-ne
returns-then-ne c =
    rw (← early_steps c.args.self.now.machine.now c.args.reg c.args.w c.args.last (sym (same_pushed c.args.w.steps) ∙ not-true _ (sym c.if-ne.ensures)))

pub returns : goal.returns
returns c =
    let e = sym (same_bits c.args.w.below (pos (2 * c.args.self.now.machine.now.word)) (omega (arith, c.struct_told-1.given)) (omega arith)) ∙ eq-eqb _ _ c.if-w-self.false in
    let s = sym (same_pushed c.args.w.steps) ∙ not-false _ (sym c.if-ne.ensures) in
    rw (← early_yes c.args.self.now.machine.now c.args.reg c.args.w c.args.last c.if-reg-self.false c.if-not-last.false e s) (ap Ok c.framed.ensures)
