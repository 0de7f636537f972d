-- `given::X64Machine::pushed` meets its contract.
use mathlib.Core.Path.{◌≡◌, sym, ap, ◌∙◌}
use native.Mathlib.Omega.{arith}
use lib.IntN.{pos, neg_ℤ, ◌-ℤ◌}
use mir.Facts.{to_z_pos}
use mir.Val.{to_z}
use mir.Syntax.{w64}
use Rattle.std.specs.Prelude.{Ok, Some}
use Rattle.std.specs.Option.{option_eq}
use Rattle.std.specs.Ordering.{int_eq}
use Rattle.std.proofs.lemmas.Bool.{not-true, not-false}
use Rattle.format.specs.Rows.{same_offset}
use Rattle.rows.proofs.Signs.{passed}
use Rattle.prologue.proofs.Distances.{checked_same, same_flip}
use Rattle.prologue.proofs.Frames.{push_far, push_elsewhere, push_yes}
use Rattle.prologue.proofs.given.X64Machine.pushed.Goals as goal
use Rattle.prologue.proofs.given.X64Machine.pushed.Goals.{After-checked_sub, After-checked_neg}

-- the code's two tests by the definitions'
moves : (c : After-checked_sub) → option_eq int_eq c.checked_sub.result (Some (pos c.args.self.now.machine.now.word)) ≡ same_offset (c.args.z -ℤ c.args.w.below) (pos c.args.self.now.machine.now.word)
moves c =
    checked_same c.checked_sub.result _ _ (rw (passed c.args.z c.ranges.z.sfits, passed c.args.w.below (omega (arith, c.struct_told-1.given))) at c.checked_sub.ensures) (record { sfits = omega (arith, c.args.self.now.word) })

stores : (c : After-checked_neg) → option_eq int_eq c.checked_neg.result (Some c.args.y) ≡ same_offset c.args.y (neg_ℤ c.args.z)
stores c = checked_same c.checked_neg.result _ _ (rw (passed c.args.z c.ranges.z.sfits) at c.checked_neg.ensures) c.ranges.y ∙ same_flip _ _

pub returns-then-ne : goal.returns-then-ne
returns-then-ne c =
    let w : to_z w64 c.args.self.now.machine.now.word ≡ pos c.args.self.now.machine.now.word = to_z_pos w64 (omega (arith, c.args.self.now.word)) in
    rw (← push_far c.args.self.now.machine.now c.args.reg c.args.z c.args.y c.args.w (sym (moves (goal.at.returns-then-ne c).After-checked_sub) ∙ not-true _ (sym (rw w at c.if-ne.ensures))))

pub returns-then-ne-2 : goal.returns-then-ne-2
returns-then-ne-2 c =
    rw (← push_elsewhere c.args.self.now.machine.now c.args.reg c.args.z c.args.y c.args.w (sym (stores (goal.at.returns-then-ne-2 c).After-checked_neg) ∙ not-true _ (sym (rw (passed c.args.y c.ranges.y.sfits) at c.if-ne-2.ensures))))

pub returns : goal.returns
returns c =
    let w : to_z w64 c.args.self.now.machine.now.word ≡ pos c.args.self.now.machine.now.word = to_z_pos w64 (omega (arith, c.args.self.now.word)) in
    let e = sym (moves (goal.at.returns c).After-checked_sub) ∙ not-false _ (sym (rw w at c.if-ne.ensures)) in
    let f = sym (stores (goal.at.returns c).After-checked_neg) ∙ not-false _ (sym (rw (passed c.args.y c.ranges.y.sfits) at c.if-ne-2.ensures)) in
    let s = rw (c.knows-known.ensures, c.registers.ensures, passed c.args.z c.ranges.z.sfits) at c.stepped.ensures in
    rw (← push_yes c.args.self.now.machine.now c.args.reg c.args.z c.args.y c.args.w e f) (ap Ok s)
