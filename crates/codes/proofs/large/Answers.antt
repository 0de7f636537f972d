-- `codes::large` meets its contract.
use mathlib.Core.Path.{◌∙◌}
use Prim.Native.Nat.{◌/◌, ◌≤◌}
use Rattle.format.proofs.Choice.{either}
use Rattle.codes.proofs.Forms.{alloc_eights, alloc_bytes_lem, ok_says, err_says}
use Rattle.codes.proofs.large.Goals as goal

pub returns-in-Ok : goal.returns-in-Ok
returns-in-Ok c =
    let h = ok_says c.try_from.result c.in-Ok.eights (c.args.size / 8) c.in-Ok.is c.try_from.ensures in
    rw (alloc_eights c.args.at c.args.size c.requires.0 h.0) (rw (c.from.ensures ∙ h.1) at c.form.ensures)

pub returns : goal.returns
returns c =
    let n = c.args.size / 8 in
    let h : 65536 ≤ n = either 65536 n (λ g. g) (λ l. absurd (err_says c.try_from.result n c.in_default.not-Ok c.try_from.ensures l)) in
    rw (alloc_bytes_lem c.args.at c.args.size c.requires.0 h) c.form-2.ensures
