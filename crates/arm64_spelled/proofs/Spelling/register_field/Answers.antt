-- `Spelling::register_field` meets its contract.
use native.Mathlib.Omega.{arith}
use Rattle.arm64_spelled.proofs.FitLaws.{field_none, field_some, field_low}
use Rattle.arm64_spelled.proofs.Spelling.register_field.Goals as goal

pub returns-then-self-eq0 : goal.returns-then-self-eq0
returns-then-self-eq0 c = (field_none _ _ c.if-self-eq0.true, omega arith)

pub returns : goal.returns
returns c = (field_some c.args.self.form c.args.self.code c.if-self-eq0.false, field_low c.args.self.form c.args.self.code (c.requires.last c.if-self-eq0.false))
