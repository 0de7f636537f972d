-- Question 21: a length fits so many bytes.
use Rattle.std.proofs.Common.{◌≡◌, ℕ, zero, suc, ◌+◌, ◌-◌, ◌*◌, ◌^◌, leb, ltb, sym, refl, ap, ◌∙◌, pow-suc, pow-add, arith, pow_pos, le-leb}
use borrow.Author.Tests.{lt-leb}
use Rattle.format.proofs.Choice.{either}

in_bits : (w : ℕ) → 256 ^ w ≡ 2 ^ (8 * w)
in_bits zero = refl
in_bits (suc w) =
    let e : 8 * suc w ≡ 8 * w + 8 = omega arith in
    omega (arith, pow-suc 256 w, in_bits w, pow-add 2 (8 * w) 8, ap (λ (n : ℕ). 2 ^ n) e)

pub held : (w size n : ℕ) → n ≡ 2 ^ (8 * w) - 1 → leb size n ≡ ltb size (256 ^ w)
held w size n e =
    let p : 256 ^ w ≡ suc n = omega (arith, in_bits w, pow_pos (8 * w), e) in
    either size n (λ h. le-leb size n h ∙ sym (le-leb (suc size) (256 ^ w) (omega (arith, p)))) (λ g. lt-leb size n g ∙ sym (lt-leb (suc size) (256 ^ w) (omega (arith, p))))
