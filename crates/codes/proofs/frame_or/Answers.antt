-- `codes::frame_or` meets its contract.
use Prim.Native.Nat.{◌≤◌}
use mathlib.Core.Path.{◌≡◌, ap, ◌∙◌}
use native.Mathlib.Omega.{arith}
use Rattle.format.specs.X64.{size64, frame_or}
use Rattle.rows.proofs.Signs.{passed}
use Rattle.codes.proofs.Questions.{no_frame, frame_said}
use Rattle.codes.proofs.frame_or.Goals as goal
use Rattle.codes.proofs.frame_or.Goals.{After-size}

-- the size of a frame code's offset, and the bounds of its numbers
sized : (c : After-size) → c.size.result ≡ size64 c.in-Frame.z
sized c = c.size.ensures ∙ ap size64 (passed c.in-Frame.z (omega arith))

held : (c : After-size) → (c.in-Frame.reg ≤ 15) × (c.size.result ≤ 240)
held c = rw (sized c) (frame_said c.in-Frame.is c.requires)

pub overflow_add-result : goal.overflow_add-result
overflow_add-result c = omega (arith, held c)

pub overflow_cast-result : goal.overflow_cast-result
overflow_cast-result c = omega (arith, held c)

pub returns-in_default : goal.returns-in_default
returns-in_default c = (no_frame c.args.code c.in_default.not-Frame).1 c.args.b

pub returns : goal.returns
unfolding frame_or
returns c = rw c.in-Frame.is (rw (sized c))
