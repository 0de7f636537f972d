-- `Spelling::of` meets its contract.
use Rattle.arm64_spelled.proofs.FormLaws.{form_good}
use Rattle.arm64_spelled.proofs.Spelling.of.Goals as goal

pub invariant_of-result : goal.invariant_of-result
invariant_of-result c = record { good = rw (c.form_of.ensures, c.opcode.ensures) (form_good c.args.code) }
