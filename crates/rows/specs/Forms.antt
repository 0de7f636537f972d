-- The forms of a step by how many bytes of operand they have, which is what `step_form` and `step_in` say.
use Rattle.std.specs.Prelude.{◌≡◌, ℕ}
use Rattle.format.specs.Rows.{step_in}
use Rattle.rows.specs.declared.StepForm.{StepForm}
use Rattle.rows.specs.declared.StepForm.TheVariants.{InOpcode, OneByte, TwoBytes, FourBytes}

abbrev pub operand_bytes : StepForm → ℕ
operand_bytes InOpcode = 0
operand_bytes OneByte = 1
operand_bytes TwoBytes = 2
operand_bytes FourBytes = 4

-- a form that writes each step as a number of operand bytes does
pub record Meant (n : ℕ) (f : StepForm) : Type 0 where
  pub same : (by : ℕ) → step_in n by ≡ step_in (operand_bytes f) by
  pub in_opcode : operand_bytes f ≡ 0 → n ≡ 0
