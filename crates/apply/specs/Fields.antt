-- Fields in a list of bytes, and what Set and Sub make of them (RISC-V psABI, "Relocations": SETn stores S + A, SUBn subtracts it).
-- Sums and differences are integers, without a width.
use Rattle.std.specs.Prelude.{ℕ, zero, suc, ◌+◌, ◌-◌, ◌*◌, ◌/◌, ◌%◌, ◌^◌, List, ℤ, pos, negsuc, ◌-ℤ◌, nat_le, nat_lt, slice_index}
use Rattle.std.proofs.Math.Option.{Option, none, some}
use Rattle.format.specs.Prelude.{pick}
use Rattle.format.specs.Put.{put}
use Rattle.format.specs.Leb.{little}
use Rattle.apply.specs.declared.Width.{Width}
use Rattle.apply.specs.Kinds.{bits_of, bytes_of}

-- ---- a value that has to fit

-- an unsigned value of at most `most`
unfoldable pub up_to : (most : ℕ) → ℤ → Option ℕ
up_to most (pos n) = pick (nat_le n most) (some n) none
up_to most (negsuc n) = none

-- a signed value of 32 bits, as its two's complement
unfoldable pub signed32 : ℤ → Option ℕ
signed32 (pos n) = pick (nat_lt n (2 ^ 31)) (some n) none
signed32 (negsuc n) = pick (nat_lt n (2 ^ 31)) (some (2 ^ 32 - suc n)) none

-- ---- fields of 6, 8, 16 and 32 bits

-- the low w bits of an integer: its remainder at 2 ^ w, from 0 on
unfoldable pub low_of : (w : ℕ) → ℤ → ℕ
low_of w (pos n) = n % 2 ^ w
low_of w (negsuc n) = 2 ^ w - suc (n % 2 ^ w)

-- the number in n bytes from p on, the lowest first
unfoldable pub number_at : List ℕ → (p n : ℕ) → ℕ
number_at bs p zero = 0
number_at bs p (suc n) = slice_index bs p + 256 * number_at bs (p + 1) n

-- the field at p: the low bits of its bytes
unfoldable pub field_at : Width → List ℕ → ℕ → ℕ
field_at w bs p = number_at bs p (bytes_of w) % 2 ^ bits_of w

-- v in the field, and the bits above it, the upper two of a 6-bit field's byte, as they were
unfoldable pub in_field : Width → List ℕ → (p v : ℕ) → List ℕ
in_field w bs p v = put bs p (little (bytes_of w) (number_at bs p (bytes_of w) / 2 ^ bits_of w * 2 ^ bits_of w + v))

-- Set: the low bits of z
unfoldable pub set_in : Width → List ℕ → ℕ → Option ℤ → List ℕ
set_in w bs p none = bs
set_in w bs p (some z) = in_field w bs p (low_of (bits_of w) z)

-- Sub: the low bits of what stands there less z
unfoldable pub sub_in : Width → List ℕ → ℕ → Option ℤ → List ℕ
sub_in w bs p none = bs
sub_in w bs p (some z) = in_field w bs p (low_of (bits_of w) (pos (field_at w bs p) -ℤ z))

-- a whole field of n bytes
unfoldable pub whole_in : (n : ℕ) → List ℕ → ℕ → Option ℕ → List ℕ
whole_in n bs p none = bs
whole_in n bs p (some v) = put bs p (little n v)
