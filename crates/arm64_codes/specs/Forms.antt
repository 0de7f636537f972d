-- What holds of the form of a first byte: a code's numbers fit 64 bits.
use Rattle.std.specs.Prelude.{◌≡◌, ℕ, ◌≤◌}
use Rattle.arm64.specs.declared.Form.{Form}

pub record FormOk (b : ℕ) (f : Form) : Type 0 where
  pub some_bytes : 1 ≤ f.size
  pub few_bytes : f.size ≤ 4
  pub not_three : f.size ≡ 3 → ⊥
  pub opcode : f.op ≤ b
  pub parted : 1 ≤ f.unit
  pub narrow : f.unit ≤ 16777216
  pub low : f.first ≤ 19
  pub steps : f.step ≤ 2
  pub scaled : f.scale ≤ 16
  pub less : f.more ≤ 8
