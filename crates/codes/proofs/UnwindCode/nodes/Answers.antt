-- `codes::UnwindCode::nodes` meets its contract.
use mathlib.Core.Path.{ap, ◌∙◌}
use native.Mathlib.Omega.{arith}
use Rattle.format.specs.Leb.{little}
use Rattle.format.specs.X64.{node, code_bytes, register_in, operand_no, size64}
use Rattle.rows.proofs.Signs.{passed}
use Rattle.codes.proofs.Questions.{Said, said, alloc_said, save_said}
use Rattle.codes.proofs.UnwindCode.nodes.Goals as goal
use Rattle.codes.proofs.UnwindCode.nodes.Goals.{Start}

-- what the questions of the code say
agreed : (c : Start) → Said c.args.self.offset c.args.self.code
agreed c = said c.args.self.offset c.args.self.code c.requires

pub overflow_cast-at : goal.overflow_cast-at
overflow_cast-at c = omega (arith, agreed (goal.at.overflow_cast-at c).Start)

pub overflow_cast-reg : goal.overflow_cast-reg
unfolding register_in
overflow_cast-reg c = let h = rw c.in-Push.is at (agreed (goal.at.overflow_cast-reg c).Start).register in omega (arith, h)

pub form-requires : goal.form-requires
unfolding register_in
form-requires c = let h = rw c.in-Push.is at (agreed (goal.at.form-requires c).Start).register in omega (arith, h)

pub alloc-requires : goal.alloc-requires
unfolding operand_no
alloc-requires c =
    let e = c.size.ensures ∙ ap size64 (passed c.in-Alloc.z (omega arith)) in
    let h = alloc_said c.in-Alloc.z (rw c.in-Alloc.is at (agreed (goal.at.alloc-requires c).Start).operand) in
    (omega (arith, e, h.0), omega (arith, e, h.1))

pub overflow_cast-reg-in-Save : goal.overflow_cast-reg-in-Save
unfolding register_in
overflow_cast-reg-in-Save c = let h = rw c.in-Save.is at (agreed (goal.at.overflow_cast-reg-in-Save c).Start).register in omega (arith, h)

pub slot-requires : goal.slot-requires
unfolding register_in operand_no
slot-requires c =
    let a = agreed (goal.at.slot-requires c).Start in
    let e = c.size-in-Save.ensures ∙ ap size64 (passed c.in-Save.z (omega arith)) in
    let r = rw c.in-Save.is at a.register in
    let h = save_said c.in-Save.z (rw c.in-Save.is at a.operand) in
    (omega (arith, r), omega (arith, e, h))

pub returns-in-Push : goal.returns-in-Push
unfolding code_bytes node little
returns-in-Push c = rw c.in-Push.is c.form.ensures

pub returns-in-Alloc : goal.returns-in-Alloc
unfolding code_bytes
returns-in-Alloc c = rw c.in-Alloc.is (rw (c.size.ensures ∙ ap size64 (passed c.in-Alloc.z (omega arith))) at c.alloc.ensures)

pub returns-in-Frame : goal.returns-in-Frame
unfolding code_bytes node little
returns-in-Frame c = rw c.in-Frame.is c.form-in-Frame.ensures

pub returns-in-Save : goal.returns-in-Save
unfolding code_bytes
returns-in-Save c = rw c.in-Save.is (rw (c.size-in-Save.ensures ∙ ap size64 (passed c.in-Save.z (omega arith))) at c.slot.ensures)
