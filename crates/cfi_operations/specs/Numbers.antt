-- Products that 64 bits hold.
use Rattle.std.specs.Prelude.{ℕ, ◌*◌, ◌^◌, Bool, true, false, not, nat_lt, if◌then◌else◌, ℤ, pos, negsuc, neg_ℤ, nat_abs, Option, Some, None}

-- a number that signed 64 bits hold
abbrev pub held : ℤ → Option ℤ
held (pos n) = if nat_lt n (2 ^ 63) then Some (pos n) else None
held (negsuc n) = if nat_lt n (2 ^ 63) then Some (negsuc n) else None

-- a number that 64 bits hold
abbrev pub fitting : ℕ → Option ℕ
fitting n = if nat_lt n (2 ^ 64) then Some n else None

-- a number by its sign and its magnitude
abbrev pub with_sign : (negative : Bool) → ℕ → ℤ
with_sign true m = neg_ℤ (pos m)
with_sign false m = pos m

abbrev pub is_negative : ℤ → Bool
is_negative (pos n) = false
is_negative (negsuc n) = true

-- the sign of a product
abbrev pub differ : Bool → Bool → Bool
differ true b = not b
differ false b = b

-- a number times a factor: magnitudes are multiplied, and the product is negative where one of the two is
abbrev pub product : (negative : Bool) → (m : ℕ) → (factor : ℤ) → Option ℤ
product negative m factor = held (with_sign (differ negative (is_negative factor)) (m * nat_abs factor))
