-- What the loops over numbers keep.
use Rattle.std.proofs.Common.{◌≡◌, ℕ, suc, ◌+◌, ◌-◌, ◌<◌, ◌≤◌, zero, Bool, true, false, cond, Some, None, refl, arith, below_more}
use Rattle.elf.specs.Searches.{first, IsFirst}

pub first_here : (p : ℕ → Bool) (count i : ℕ) → i < count → p i ≡ true → first p (count - i) i ≡ Some i
unfolding first
first_here p count i below passes =
    let e : count - i ≡ suc (count - suc i) = omega arith in rw (e, passes) refl

pub first_later : (p : ℕ → Bool) (count i : ℕ) → i < count → p i ≡ false
    → first p (count - i) i ≡ first p (count - (i + 1)) (i + 1)
unfolding first
first_later p count i below fails =
    let e : count - i ≡ suc (count - suc i) = omega arith in
    let f : i + 1 ≡ suc i = omega arith in
    rw (f, e, fails) refl

pub first_none : (p : ℕ → Bool) (count i : ℕ) → count ≤ i → first p (count - i) i ≡ None
unfolding first
first_none p count i past = let e : count - i ≡ 0 = omega arith in rw e refl

-- one more number is asked
one_more : (p : ℕ → Bool) (n i : ℕ) (b : Bool) → p i ≡ b → ((j : ℕ) → j < i → p j ≡ false)
    → (p i ≡ false → IsFirst p (suc i + n) (first p n (suc i)))
    → IsFirst p (suc i + n) (cond b (Some i) (first p n (suc i)))
one_more p n i true e below rest = let lt : i < suc i + n = omega arith in (lt, e, below)
one_more p n i false e below rest = rest e

from : (p : ℕ → Bool) (n i : ℕ) → ((j : ℕ) → j < i → p j ≡ false) → IsFirst p (i + n) (first p n i)
unfolding first
from p zero i below = λ j lt. below j (omega arith)
from p (suc n) i below =
    let e : i + suc n ≡ suc i + n = omega arith in
    rw e (one_more p n i (p i) refl below (λ fails.
    from p n (suc i) (λ j lt. below_more (λ k. p k ≡ false) i below fails j (omega arith))))

pub finds_first : (p : ℕ → Bool) (count : ℕ) → IsFirst p count (first p count 0)
finds_first p count =
    let e : 0 + count ≡ count = omega arith in
    rw e at (from p count 0 (λ j lt. absurd (omega arith)))

pub ruleset search_steps = (first_here, first_later, first_none)
