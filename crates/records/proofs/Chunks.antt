-- What is read of a part of a list.
use mathlib.Core.Path.{◌≡◌, refl}
use Prim.Native.Nat.{ℕ, zero, suc, ◌+◌, ◌≤◌, ◌<◌}
use native.Mathlib.Omega.{arith}
use Rattle.format.specs.Prelude.{each}

-- what is at the first n places of a part is what is `at` places further in the list
pub each_moved : {A : Type 0} (f g : ℕ → A) (at n : ℕ) → ((i : ℕ) → i < n → f i ≡ g (at + i)) → (i m : ℕ) → i + m ≤ n → each f i m ≡ each g (at + i) m
unfolding each
each_moved f g at n same i zero h = refl
each_moved f g at n same i (suc m) h =
    let e : at + suc i ≡ suc (at + i) = omega arith in
    rw (same i (omega arith), each_moved f g at n same (suc i) m (omega arith), e)
