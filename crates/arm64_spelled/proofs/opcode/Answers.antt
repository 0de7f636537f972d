-- `arm64_spelled::opcode` meets its contract.
use mathlib.Core.Path.{ap, ◌∙◌}
use native.Mathlib.Omega.{arith}
use Rattle.arm64.specs.Codes.{form_of}
use Rattle.arm64_spelled.proofs.FormLaws.{by_kind, small, middle, large}
use Rattle.arm64_spelled.proofs.opcode.Goals as goal

pub returns-then-c-ne-ALLOC : goal.returns-then-c-ne-ALLOC
returns-then-c-ne-ALLOC c = ap form_of (c.from.ensures ∙ c.kind_of.ensures.0) ∙ by_kind c.args.c c.if-c-ne-ALLOC.true

pub returns-in-0-to-31 : goal.returns-in-0-to-31
returns-in-0-to-31 c = small _ (omega arith) (omega arith)

pub returns-in-32-to-2047 : goal.returns-in-32-to-2047
returns-in-32-to-2047 c = middle _ (omega arith) (omega arith) (omega arith)

pub returns-in_default : goal.returns-in_default
returns-in_default c = large _ (omega arith) (omega arith)
