-- The operands of operations (DWARF 5, 6.4.2 and 7.24), each with the place behind it.
use Rattle.std.specs.Prelude.{ℕ, ◌+◌, ◌-◌, ◌≤◌, ◌<◌, nat_lt, true, false, if◌then◌else◌, List, length, ℤ, pos, nat_abs, Option, Some, None}
use Rattle.cfi_entries.specs.Places.{uleb_at, sleb_at}
use Rattle.cfi_entries.specs.Refusals.{◌>>?◌}
use Rattle.cfi_operations.specs.declared.operands.Block.{Block}
use Rattle.cfi_operations.specs.Numbers.{held, is_negative, product}

-- the place behind an operand is further on, inside the bytes
abbrev pub Ahead : (size p q : ℕ) → Type 0
Ahead size p q = (p < q) × (q ≤ size)

-- a register has 16 bits
abbrev pub register_at : List ℕ → ℕ → Option (ℕ × ℕ)
register_at s p = uleb_at s p >>? λ n. if nat_lt 0xffff n.0 then None else Some (n.0, n.1)

-- an offset as it stands
abbrev pub plain_at : List ℕ → ℕ → Option (ℤ × ℕ)
plain_at s p = uleb_at s p >>? λ n. held (pos n.0) >>? λ z. Some (z, n.1)

-- one that is factored, unsigned; with its sign turned; and signed
abbrev pub factored_at : ℤ → List ℕ → ℕ → Option (ℤ × ℕ)
factored_at factor s p = uleb_at s p >>? λ n. product false n.0 factor >>? λ z. Some (z, n.1)

abbrev pub negated_at : ℤ → List ℕ → ℕ → Option (ℤ × ℕ)
negated_at factor s p = uleb_at s p >>? λ n. product true n.0 factor >>? λ z. Some (z, n.1)

abbrev pub signed_at : ℤ → List ℕ → ℕ → Option (ℤ × ℕ)
signed_at factor s p =
    sleb_at s p >>? λ n. product (is_negative n.0) (nat_abs n.0) factor >>? λ z. Some (z, n.1)

-- an expression: DW_FORM_block, a length and as many bytes
abbrev pub block_at : List ℕ → ℕ → Option (Block × ℕ)
block_at s p =
    uleb_at s p >>? λ n.
    if nat_lt (length s - n.1) n.0 then None else Some (record { at = n.1; end = n.1 + n.0 }, n.1 + n.0)
