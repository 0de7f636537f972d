-- `arm64_runs::put_three` meets its contract.
use native.Mathlib.Omega.{arith}
use Rattle.std.proofs.lemmas.Grind.{common_steps}
use Rattle.format.proofs.Copied.{copied}
use Rattle.arm64_runs.proofs.put_three.Goals as goal

pub returns : goal.returns
returns c =
    let h = c.copy_from_slice.ensures in
    copied h.after (grind (arith, common_steps, h.len, h.after)) (omega arith) (omega arith)
