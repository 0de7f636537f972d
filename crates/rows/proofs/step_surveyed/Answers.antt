-- `rows::step_surveyed` meets its contract.
use mathlib.Core.Path.{sym, ◌∙◌}
use Prim.Native.Nat.{◌^◌}
use native.Mathlib.Omega.{arith}
use lib.Dec.{ltb→lt}
use Rattle.format.proofs.Choice.{is_yes_lem}
use Rattle.format.proofs.Sizes.{step_short}
use Rattle.rows.proofs.Steps.{step_none, step_some, form_0, form-length}
use Rattle.rows.proofs.step_surveyed.Goals as goal

pub returns-then-by-eq0 : goal.returns-then-by-eq0
returns-then-by-eq0 c = (omega arith, rw (step_none c.if-by-eq0.true), omega arith)

pub returns-then-by-le-MOST_IN_OPCODE : goal.returns-then-by-le-MOST_IN_OPCODE
returns-then-by-le-MOST_IN_OPCODE c =
    let f = form_0 c.args.by c.if-by-le-MOST_IN_OPCODE.true in
    (omega arith, rw (step_some c.args.by c.if-by-eq0.false) (omega (arith, form-length c.args.by)), omega arith)

pub returns : goal.returns
returns c = (ltb→lt c.args.by (2 ^ 32) (is_yes_lem (sym c.step_ok.ensures ∙ c.if-not-step_ok.false)), c.advance_size.ensures, omega (arith, step_short c.args.by))
