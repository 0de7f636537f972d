-- `x64::long_no` meets its contract.
use Rattle.x64.specs.Sources.{long_no}
use Rattle.codes.specs.Codes.{yes_or_no}
use Rattle.format.proofs.Choice.{if-le, if-gt}
use mathlib.Core.Option.{Option, none, some}
use Prim.Native.Nat.{ℕ, suc, ◌^◌}
use native.Mathlib.Omega.{arith}
use Rattle.x64.proofs.long_no.Goals as goal

pub returns-then-size-lt4294967296 : goal.returns-then-size-lt4294967296
unfolding long_no yes_or_no
returns-then-size-lt4294967296 c = rw (if-le {X = Option ℕ} (suc c.args.size) (2 ^ 32) none (some 21) c.if-size-lt4294967296.true)

pub returns : goal.returns
unfolding long_no yes_or_no
returns c = rw (if-gt {X = Option ℕ} (suc c.args.size) (2 ^ 32) none (some 21) (omega (arith, c.if-size-lt4294967296.false)))
