-- The wrapping law: the low bits of sums and differences of integers, at any width.
use Rattle.std.proofs.Common.{◌≡◌, ℕ, suc, ◌+◌, ◌-◌, ◌*◌, ◌/◌, ◌%◌, ◌^◌, ◌<◌, ◌≤◌, ℤ, pos, negsuc, ◌+ℤ◌, ◌-ℤ◌, neg_ℤ, sym, ap, ◌∙◌, mod-lt, mod-eq_of_lt, add-mul, one-mul, div-add-mod', zero-mul, arith, pow_pos, pow-add, mul_assoc, w64, to_z}
use native.Mathlib.Nat.{add-mul-mod_self_right}
use lib.IntN.{+ℤ_comm, +ℤ-neg_ℤ_cancel, pos-+ℤ-pos}
use mir.Facts.{to_z-neg}
use Rattle.std.proofs.lemmas.Int.{ints}
use Rattle.format.proofs.Choice.{either}
use Rattle.apply.specs.Fields.{low_of}

-- ---- integers that are the same but for a multiple of m

record Congruent (m : ℕ) (x y : ℤ) : Type 0 where
  left : ℕ
  right : ℕ
  meet : x +ℤ pos (left * m) ≡ y +ℤ pos (right * m)

module _ {m : ℕ} where
  turned : {x y : ℤ} → Congruent m x y → Congruent m y x
  turned c = record { left = c.right; right = c.left; meet = sym c.meet }

  joined : {x y z : ℤ} → Congruent m x y → Congruent m y z → Congruent m x z
  joined c d =
      record {
        left = c.left + d.left;
        right = d.right + c.right;
        meet = omega (arith, ints, c.meet, d.meet, add-mul c.left d.left m, add-mul d.right c.right m);
      }

  added : {x y : ℤ} (z : ℤ) → Congruent m x y → Congruent m (x +ℤ z) (y +ℤ z)
  added z c = record { left = c.left; right = c.right; meet = omega (arith, ints, c.meet) }

  -- taken off z
  taken_off : {x y : ℤ} (z : ℤ) → Congruent m x y → Congruent m (z -ℤ x) (z -ℤ y)
  taken_off z c = record { left = c.right; right = c.left; meet = omega (arith, ints, c.meet) }

  -- two numbers below m that are congruent are one
  only : (a b : ℕ) → a < m → b < m → Congruent m (pos a) (pos b) → a ≡ b
  only a b h k c =
      let e : a + c.left * m ≡ b + c.right * m = omega (arith, ints, c.meet) in
      sym (mod-eq_of_lt h) ∙ sym (add-mul-mod_self_right a c.left m) ∙ ap (λ (n : ℕ). n % m) e ∙ add-mul-mod_self_right b c.right m ∙ mod-eq_of_lt k

-- ---- low bits

module _ (w : ℕ) where
  abbrev SameBits : ℤ → ℤ → Type 0
  SameBits x y = Congruent (2 ^ w) x y

  remainder : (n : ℕ) → n % 2 ^ w < 2 ^ w
  remainder n = mod-lt n (pow_pos w)

  pub low_lt : (x : ℤ) → low_of w x < 2 ^ w
  unfolding low_of
  low_lt (pos n) = remainder n
  low_lt (negsuc n) = omega (arith, remainder n)

  -- the low bits, and the number
  low : (x : ℤ) → SameBits (pos (low_of w x)) x
  unfolding low_of
  low (pos n) =
      let e : n % 2 ^ w + n / 2 ^ w * 2 ^ w ≡ n + 0 * 2 ^ w = omega (arith, div-add-mod' n (2 ^ w), zero-mul (2 ^ w)) in
      record { left = n / 2 ^ w; right = 0; meet = omega (arith, ints, e) }
  low (negsuc n) =
      let k : ℕ = (n / 2 ^ w + 1) * 2 ^ w in
      let whole : k ≡ n / 2 ^ w * 2 ^ w + 2 ^ w = omega (arith, add-mul (n / 2 ^ w) 1 (2 ^ w), one-mul (2 ^ w)) in
      let above : suc n ≤ k = omega (arith, whole, div-add-mod' n (2 ^ w), remainder n) in
      let e : 2 ^ w - suc (n % 2 ^ w) + 0 * 2 ^ w ≡ k - suc n = omega (arith, whole, div-add-mod' n (2 ^ w), remainder n, zero-mul (2 ^ w)) in
      record { left = 0; right = n / 2 ^ w + 1; meet = omega (arith, ints, e, above) }

  -- congruent numbers have the same low bits, and the other way round
  low_of_lem : {x y : ℤ} → SameBits x y → low_of w x ≡ low_of w y
  low_of_lem {x} {y} c = only _ _ (low_lt x) (low_lt y) (joined (low x) (joined c (turned (low y))))

  of_low : (x y : ℤ) → low_of w x ≡ low_of w y → SameBits x y
  of_low x y e = joined (turned (low x)) (rw e (low y))

  -- x stored, and y subtracted, wrapping, is the distance where that is not negative and fits
  pub wraps : (x y : ℤ) (d : ℕ) → x -ℤ y ≡ pos d → d < 2 ^ w → low_of w (pos (low_of w x) -ℤ y) ≡ d
  unfolding low_of
  wraps x y d e h = low_of_lem (added (neg_ℤ y) (low x)) ∙ ap (low_of w) e ∙ mod-eq_of_lt h

-- ---- what the code computes in 64 bits has the low bits of the true sum and difference

-- a signed number, and the number that its 64 bits are
signed : (a : ℕ) → a < 2 ^ 64 → SameBits 64 (to_z w64 a) (pos a)
signed a l =
    either (2 ^ 63) a
    (λ (g : 2 ^ 63 ≤ a).
    let k : ℕ = 2 ^ 64 - suc a in
    let e : 2 ^ 64 - suc k ≡ a = omega arith in
    let z : to_z w64 a ≡ negsuc k = ap (to_z w64) (sym e) ∙ to_z-neg w64 k (omega arith) in
    record { left = 1; right = 0; meet = omega (arith, ints, z) })
    (λ (g : a < 2 ^ 63). record { left = 0; right = 0; meet = omega (arith, ints) })

pub sum_low : (s a : ℕ) → a < 2 ^ 64 → (s + a) % 2 ^ 64 ≡ low_of 64 (pos s +ℤ to_z w64 a)
unfolding low_of
sum_low s a l =
    ap (low_of 64) (sym (pos-+ℤ-pos s a) ∙ +ℤ_comm (pos s) (pos a)) ∙ low_of_lem 64 (added (pos s) (turned (signed a l))) ∙ ap (low_of 64) (+ℤ_comm (to_z w64 a) (pos s))

module _ (w : ℕ) (h : w ≤ 64) where
  split : 2 ^ 64 ≡ 2 ^ (64 - w) * 2 ^ w
  split = let e : 64 ≡ 64 - w + w = omega (arith, h) in ap (λ (k : ℕ). 2 ^ k) e ∙ pow-add 2 (64 - w) w

  -- what is the same in 64 bits is in fewer
  narrower : {x y : ℤ} → SameBits 64 x y → SameBits w x y
  narrower {x} {y} c =
      let f : (n : ℕ) → n * 2 ^ (64 - w) * 2 ^ w ≡ n * 2 ^ 64 = λ n. mul_assoc n (2 ^ (64 - w)) (2 ^ w) ∙ ap (λ (k : ℕ). n * k) (sym split) in
      record {
        left = c.left * 2 ^ (64 - w);
        right = c.right * 2 ^ (64 - w);
        meet = ap (λ (n : ℕ). x +ℤ pos n) (f c.left) ∙ c.meet ∙ ap (λ (n : ℕ). y +ℤ pos n) (sym (f c.right));
      }

  -- what Set stores
  pub set_low : (z : ℤ) → low_of 64 z % 2 ^ w ≡ low_of w z
  unfolding low_of
  set_low z = low_of_lem w (narrower (low 64 z))

  -- what Sub stores
  pub sub_low : (r f : ℕ) (z : ℤ) → (r + low_of 64 z) % 2 ^ 64 ≡ f → r % 2 ^ w ≡ low_of w (pos f -ℤ z)
  unfolding low_of
  sub_low r f z g =
      let b : ℕ = low_of 64 z in
      let sum : SameBits w (pos r +ℤ pos b) (pos f) = narrower (rw (pos-+ℤ-pos r b, g) at (turned (low 64 (pos r +ℤ pos b)))) in
      let whole : SameBits w (pos r +ℤ pos b -ℤ pos b) (pos f -ℤ pos b) = added (neg_ℤ (pos b)) sum in
      let less : SameBits w (pos f -ℤ pos b) (pos f -ℤ z) = taken_off (pos f) (narrower (low 64 z)) in
      ap (low_of w) (sym (+ℤ-neg_ℤ_cancel (pos r) (pos b))) ∙ low_of_lem w (joined whole less)
