-- `rows::saved_size` meets its contract.
use native.Mathlib.Omega.{arith}
use lib.ListN.{length-append}
use lib.Signed.{mag}
use mir.Facts.{to_z-of_z}
use borrow.Author.Rules.{rules}
use Rattle.leb.proofs.Signs.{same_cast, same_is}
use Rattle.rows.proofs.Bytes.{saved_above, saved_below, register-length, uleb_ten, sleb_ten, register_eleven}
use Rattle.rows.proofs.saved_size.Goals as goal

pub overflow_add-result : goal.overflow_add-result
overflow_add-result c = omega (arith, uleb_ten c.from.result (omega (arith, c.from.ensures)))

pub overflow_add-result-then-z-lt0 : goal.overflow_add-result-then-z-lt0
overflow_add-result-then-z-lt0 c =
    let k = rw (to_z-of_z c.ranges.z) at c.sleb_size.ensures in
    omega (arith, uleb_ten c.from.result (omega (arith, c.from.ensures)), sleb_ten c.args.z c.ranges.z.sfits)

pub returns-then-z-lt0 : goal.returns-then-z-lt0
returns-then-z-lt0 c = rw (saved_above c.args.reg c.args.z c.ranges.z c.if-z-lt0.true, length-append) (search rules)

pub overflow_cast-z : goal.overflow_cast-z
overflow_cast-z c = same_cast c.args.z c.ranges.z c.if-z-lt0.false

pub overflow_add-result-2 : goal.overflow_add-result-2
overflow_add-result-2 c =
    let e = same_is c.args.z c.ranges.z c.if-z-lt0.false in
    let k = rw e at c.uleb_size-2.ensures in
    omega (arith, register_eleven 0 0 c.args.reg (omega arith), uleb_ten (mag c.args.z) (omega (arith, c.ranges.z.sfits)))

pub returns : goal.returns
returns c = rw (saved_below c.args.reg c.args.z c.ranges.z c.if-z-lt0.false, length-append, register-length 0x80 0x05 c.args.reg) (search rules)
