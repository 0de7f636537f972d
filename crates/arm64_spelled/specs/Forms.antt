-- What holds of the form of a kind, and of a code that its fields hold: the numbers fit 64 bits.
use Rattle.std.specs.Prelude.{◌≡◌, ℕ, ◌+◌, ◌-◌, ◌*◌, ◌≤◌, ◌<◌, ◌^◌, List, [], ◌∷◌}
use Rattle.arm64.specs.declared.Form.{Form}
use Rattle.arm64.specs.declared.Code.{Code}
use Rattle.arm64.specs.Codes.{register_field, offset_field}

-- the first bytes of the kinds in their order; an allocation's is that of its longest form
abbrev pub opcodes : List ℕ
opcodes =
    0xe0 ∷ 0x20 ∷ 0x40 ∷ 0x80 ∷ 0xc8 ∷ 0xcc ∷ 0xd0 ∷ 0xd4 ∷ 0xd6 ∷ 0xd8 ∷ 0xda ∷ 0xdc ∷ 0xde ∷ 0xe1 ∷ 0xe2 ∷ 0xe3 ∷ 0xe6 ∷ 0xfc ∷ []

pub record FormGood (f : Form) : Type 0 where
  pub some_bytes : 1 ≤ f.size
  pub few_bytes : f.size ≤ 4
  pub not_three : f.size ≡ 3 → ⊥
  pub opcode : f.op ≤ 255
  pub narrow : f.unit ≤ 16777216
  pub scaled : 1 ≤ f.scale
  pub coarse : f.scale ≤ 16
  pub near : f.more ≤ 8

-- the register and the offset are in the form's ranges
pub record InRanges (f : Form) (c : Code) : Type 0 where
  pub first : (f.step ≡ 0 → ⊥) → f.first ≤ c.register
  pub last : (f.step ≡ 0 → ⊥) → c.register ≤ 30
  pub more : f.more ≤ c.offset
  pub held : offset_field f c < f.unit

-- the number that a form spells of a code
unfoldable pub word_of : Form → Code → ℕ
word_of f c = f.op * 256 ^ (f.size - 1) + f.unit * register_field f c + offset_field f c
