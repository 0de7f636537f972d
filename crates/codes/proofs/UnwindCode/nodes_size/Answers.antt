-- `codes::UnwindCode::nodes_size` meets its contract.
use mathlib.Core.Path.{sym, ap, ◌∙◌}
use native.Mathlib.Omega.{arith}
use Rattle.format.specs.X64.{node, code_bytes, size64}
use Rattle.rows.proofs.Signs.{passed}
use Rattle.codes.specs.Codes.{alloc_size, save_size}
use Rattle.codes.proofs.Forms.{alloc_length, save-length}
use Rattle.codes.proofs.UnwindCode.nodes_size.Goals as goal

pub returns-in-Push : goal.returns-in-Push
unfolding code_bytes node
returns-in-Push c = rw c.in-Push.is

pub returns-in-Alloc : goal.returns-in-Alloc
unfolding code_bytes
returns-in-Alloc c =
    let e = c.size.ensures ∙ ap size64 (passed c.in-Alloc.z (omega arith)) in
    rw c.in-Alloc.is (c.alloc_size.ensures ∙ ap alloc_size e ∙ sym (alloc_length c.args.self.offset (size64 c.in-Alloc.z)))

pub returns-in-Frame : goal.returns-in-Frame
unfolding code_bytes node
returns-in-Frame c = rw c.in-Frame.is

pub returns-in-Save : goal.returns-in-Save
unfolding code_bytes
returns-in-Save c =
    let e = c.size-in-Save.ensures ∙ ap size64 (passed c.in-Save.z (omega arith)) in
    rw c.in-Save.is (c.save_size.ensures ∙ ap (save_size c.in-Save.vector) e ∙ sym (save-length c.in-Save.vector c.args.self.offset c.in-Save.field-0 (size64 c.in-Save.z)))
