-- Differences of numbers, as integers.
use Rattle.std.proofs.Common.{◌≡◌, ℕ, suc, ◌-◌, ◌<◌, ◌≤◌, pos, negsuc, ◌-ℤ◌, arith}
use Rattle.std.proofs.lemmas.Int.{ints}

pub not_below : (p n : ℕ) → n ≤ p → pos p -ℤ pos n ≡ pos (p - n)
not_below p n h = omega (arith, ints)

pub below : (p n : ℕ) → p < n → pos p -ℤ pos n ≡ negsuc (n - suc p)
below p n h = omega (arith, ints)
