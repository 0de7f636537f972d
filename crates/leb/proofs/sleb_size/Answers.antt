-- `sleb_size` is the length of the signed LEB number.
use mathlib.Core.Path.{refl}
use mir.Syntax.{w64}
use mir.Val.{of_z, to_z}
use Rattle.leb.proofs.Signs.{bytes_of}
use native.Mathlib.Omega.{arith}
use lib.Count.{leading_le, leading_length}
use Rattle.leb.specs.Signs.{is_negative}
use Rattle.leb.proofs.Sizes.{sleb_size}
use Rattle.leb.proofs.sleb_size.Goals as goal

pub overflow_cast-result : goal.overflow_cast-result
overflow_cast-result c = omega (arith, leading_le 64 c.magnitude.result)

pub overflow_sub-result : goal.overflow_sub-result
overflow_sub-result c = omega (arith, leading_le 64 c.magnitude.result)

pub returns : goal.returns
returns c =
    let v = c.args.v in
    let m = c.magnitude.result in
    let t = leading_length 64 m (omega arith) in
    rw (← bytes_of v c.ranges.v refl c.magnitude.ensures.0)
    (omega (arith, sleb_size (is_negative (to_z w64 (of_z w64 v))) t.0 m t.3 t.2 (omega (arith, t.1)), t.1))
