-- What the loop over symbols keeps.
use Rattle.std.proofs.Common.{◌≡◌, ℕ, zero, suc, ◌+◌, ◌-◌, ◌<◌, ◌≤◌, Bool, true, false, cond, Some, None, refl, subst, arith, below_more}
use Rattle.std.specs.Prelude.{Option}
use Rattle.elf_symbols.specs.declared.functions.Function.{Function}
use Rattle.std.proofs.lemmas.Bool.Decides.{nat_tests}
use Rattle.elf_symbols.specs.Functions.{is_nearer, nearer, nearest, IsNearest}

pub nearest_later : (p : ℕ → Option Function) (count i : ℕ) (found : Option Function) → i < count
    → nearest p (count - i) i found ≡ nearest p (count - (i + 1)) (i + 1) (nearer found (p i))
unfolding nearest
nearest_later p count i found below =
    let e : count - i ≡ suc (count - suc i) = omega arith in
    let f : i + 1 ≡ suc i = omega arith in
    rw (f, e) refl

pub nearest_none : (p : ℕ → Option Function) (count i : ℕ) (found : Option Function) → count ≤ i
    → nearest p (count - i) i found ≡ found
unfolding nearest
nearest_none p count i found past = let e : count - i ≡ 0 = omega arith in rw e refl

-- what is not nearer than one is not nearer than a nearer one
beyond : (c d x : Function) → is_nearer c d ≡ true → is_nearer c x ≡ false → is_nearer d x ≡ false
beyond c d x far near = grind (arith, nat_tests)

no_nearer : (c : Function) → is_nearer c c ≡ false
no_nearer c = grind (arith, nat_tests)

same_one : (p : ℕ → Option Function) (i : ℕ) (d x : Function) → p i ≡ Some d → p i ≡ Some x → d ≡ x
same_one p i d x e f = cc

-- the nearer one of what was found and of one more
nearer_one : (p : ℕ → Option Function) (i : ℕ) (c d : Function) (b : Bool) → is_nearer c d ≡ b → p i ≡ Some d
    → IsNearest p i (Some c) → IsNearest p (suc i) (cond b (Some d) (Some c))
nearer_one p i c d true far e h =
    let last : i < suc i = omega arith in (
      (i, last, e),
      λ j x lt is. below_more
          (λ k. (y : Function) → p k ≡ Some y → is_nearer d y ≡ false) i
          (λ k below y at_k. beyond c d y far (h.1 k y below at_k))
          (λ y at_i. subst (λ z. is_nearer d z ≡ false) (same_one p i d y e at_i) (no_nearer d))
          j (omega arith) x is,
    )
nearer_one p i c d false near e h =
    let lt : h.0.0 < suc i = let below = h.0.1 in omega (arith, below) in (
      (h.0.0, lt, h.0.2),
      λ j x lt is. below_more
          (λ k. (y : Function) → p k ≡ Some y → is_nearer c y ≡ false) i
          (λ k below y at_k. h.1 k y below at_k)
          (λ y at_i. subst (λ z. is_nearer c z ≡ false) (same_one p i d y e at_i) near)
          j (omega arith) x is,
    )

step : (p : ℕ → Option Function) (i : ℕ) (found new : Option Function) → p i ≡ new → IsNearest p i found
    → IsNearest p (suc i) (nearer found new)
step p i None None e h = λ j lt. below_more (λ k. p k ≡ None) i h e j (omega arith)
step p i None (Some d) e h =
    let last : i < suc i = omega arith in (
      (i, last, e),
      λ j x lt is. below_more
          (λ k. (y : Function) → p k ≡ Some y → is_nearer d y ≡ false) i
          (λ k below y at_k. let none : p k ≡ None = h k below in cc)
          (λ y at_i. subst (λ z. is_nearer d z ≡ false) (same_one p i d y e at_i) (no_nearer d))
          j (omega arith) x is,
    )
step p i (Some c) None e h =
    let lt : h.0.0 < suc i = let below = h.0.1 in omega (arith, below) in (
      (h.0.0, lt, h.0.2),
      λ j x lt is. below_more
          (λ k. (y : Function) → p k ≡ Some y → is_nearer c y ≡ false) i
          (λ k below y at_k. h.1 k y below at_k)
          (λ y at_i. cc)
          j (omega arith) x is,
    )
step p i (Some c) (Some d) e h = nearer_one p i c d (is_nearer c d) refl e h

from : (p : ℕ → Option Function) (n i : ℕ) (found : Option Function) → IsNearest p i found
    → IsNearest p (i + n) (nearest p n i found)
unfolding nearest
from p zero i found h = let e : i + 0 ≡ i = omega arith in rw e h
from p (suc n) i found h =
    let e : i + suc n ≡ suc i + n = omega arith in
    rw e (from p n (suc i) (nearer found (p i)) (step p i found (p i) refl h))

pub finds_nearest : (p : ℕ → Option Function) (count : ℕ) → IsNearest p count (nearest p count 0 None)
finds_nearest p count =
    let e : 0 + count ≡ count = omega arith in
    rw e at (from p count 0 None (λ j lt. absurd (omega arith)))
