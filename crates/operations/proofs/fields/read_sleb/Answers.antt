-- `read_sleb` reads the signed LEB number that stands there.
use mathlib.Core.Path.{◌∙◌}
use native.Mathlib.Omega.{arith}
use Rattle.operations.proofs.Readings.{sleb_missing, sleb_plain, sleb_turned}
use Rattle.operations.proofs.fields.read_sleb.Goals as goal

pub returns-in_err-g : goal.returns-in_err-g
returns-in_err-g c = c.from_residual.ensures ∙ sleb_missing _ _ c.in_err-g.ensures.1

pub signed_past-requires : goal.signed_past-requires
signed_past-requires c = let f = c.in_ok-g.ensures in (f.few, f.scaled, c.if-g-lt64.true, f.below, omega (arith, f.ahead))

pub returns-then-g-lt64 : goal.returns-then-g-lt64
returns-then-g-lt64 c = c.signed_past.ensures ∙ sleb_plain c.args.at c.in_ok-g.ensures c.if-g-lt64.true

pub overflow_sub-turned : goal.overflow_sub-turned
overflow_sub-turned c = omega (arith, c.in_ok-g.ensures.last)

pub overflow_sub-turned-2 : goal.overflow_sub-turned-2
overflow_sub-turned-2 c = omega (arith, c.in_ok-g.ensures.below)

pub overflow_sub-turned-3 : goal.overflow_sub-turned-3
overflow_sub-turned-3 c = omega (arith, c.in_ok-g.ensures.below)

pub signed_past-requires-2 : goal.signed_past-requires-2
signed_past-requires-2 c =
    let f = c.in_ok-g.ensures in
    (f.few, f.scaled, omega (arith, c.if-g-lt64.false), omega (arith, f.below), omega (arith, f.ahead))

pub returns : goal.returns
returns c = c.signed_past-2.ensures ∙ sleb_turned c.args.at c.in_ok-g.ensures c.if-g-lt64.false
