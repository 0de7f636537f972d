-- Powers of 2 that make 2^64 together.
use Rattle.std.proofs.Common.{◌≡◌, ℕ, suc, ◌+◌, ◌-◌, ◌*◌, ◌/◌, ◌^◌, ◌<◌, sym, ap, ◌∙◌, add-zero, suc-mul, pow-add, pow_pos, arith}
use native.Mathlib.Nat.{mul-add-div_right, div-eq_of_lt}

pub shifted : (a b : ℕ) → a + b ≡ 64 → 18446744073709551615 / 2 ^ b ≡ 2 ^ a - 1
shifted a b h =
    let k = 2 ^ a - 1 in
    let d = 2 ^ b in
    let low : 0 < d = pow_pos b in
    let more : 2 ^ a ≡ suc k = omega (arith, pow_pos a) in
    let whole : 2 ^ a * d ≡ 2 ^ 64 = sym (pow-add 2 a b) ∙ ap (λ (n : ℕ). 2 ^ n) h in
    let e : 18446744073709551615 ≡ k * d + (d - 1) = omega (arith, whole, ap (λ (n : ℕ). n * d) more, suc-mul k d, low) in
    ap (λ (n : ℕ). n / d) e ∙ mul-add-div_right low k (d - 1) ∙ ap (λ (n : ℕ). k + n) (div-eq_of_lt (omega arith)) ∙ add-zero k
