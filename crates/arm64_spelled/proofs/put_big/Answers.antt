-- `arm64_spelled::put_big` meets its contract.
use native.Mathlib.Omega.{arith}
use mathlib.Core.Path.{◌∙◌}
use Rattle.std.proofs.lemmas.Grind.{common_steps}
use Rattle.format.proofs.Copied.{copied}
use Rattle.arm64_spelled.proofs.FitLaws.{big_1, big_2, big_4, high_2, high_4}
use Rattle.arm64_spelled.proofs.put_big.Goals as goal

pub returns-then-size-eq1 : goal.returns-then-size-eq1
returns-then-size-eq1 c = rw (big_1 _ _ c.if-size-eq1.true) c.byte.ensures

pub returns-then-size-eq2 : goal.returns-then-size-eq2
returns-then-size-eq2 c =
    let h = c.copy_from_slice.ensures in
    rw (big_2 _ _ c.if-size-eq2.true ∙ high_2 c.args.n) (copied (h.after ∙ c.to_be_bytes.ensures) (grind (arith, common_steps, h.len, h.after)) (omega arith) (omega (arith, c.requires)))

pub returns : goal.returns
returns c =
    let h = c.copy_from_slice-2.ensures in
    rw (big_4 c.args.size c.args.n (omega (arith, c.if-size-eq1.false, c.if-size-eq2.false, c.requires)) ∙ high_4 c.args.n) (copied (h.after ∙ c.to_be_bytes-2.ensures) (grind (arith, common_steps, h.len, h.after)) (omega arith) (omega (arith, c.requires)))
