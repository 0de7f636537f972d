-- A test at each record of a range, asked by a loop that goes from one record to the next and stops at the first no.
use mathlib.Core.Path.{◌≡◌, refl, sym, ap, ◌∙◌}
use Prim.Native.Nat.{ℕ, suc, ◌+◌, ◌-◌, ◌≤◌, ◌<◌}
use native.Mathlib.Omega.{arith}
use native.Mathlib.Numerals.{add-one}
use mathlib.Core.Bool.{Bool, true, false, not, ◌&&◌}
use Rattle.format.specs.Prelude.{all, each}
use Rattle.format.specs.Lists.{all_in}
use Rattle.lists.proofs.Answers.{accepted, refused}

pub none_left : (test : ℕ → Bool) (at : ℕ) → all_in test at 0 ≡ true
unfolding all_in all each
none_left test at = refl

pub one_more : (test : ℕ → Bool) (at n : ℕ) → all_in test at (suc n) ≡ test at && all_in test (suc at) n
unfolding all_in all each
one_more test at n = refl

-- at record i of the n from `at` on, what is left decides
pub record Asking (test : ℕ → Bool) (at n i : ℕ) : Type 0 where
  pub low : at ≤ i
  pub high : i ≤ at + n
  pub rest : all_in test at n ≡ all_in test i (at + n - i)

pub start : (test : ℕ → Bool) (at n : ℕ) → Asking test at n at
start test at n = record { low = omega arith; high = omega arith; rest = let e : n ≡ at + n - at = omega arith in ap (all_in test at) e }

module _ {test : ℕ → Bool} {at n i : ℕ} (a : Asking test at n i) where
  here : i < at + n → all_in test at n ≡ test i && all_in test (i + 1) (at + n - (i + 1))
  here h =
      let e : at + n - i ≡ suc (at + n - suc i) = omega arith in
      a.rest ∙ rw (add-one i, e) (one_more test i (at + n - suc i))

  module _ {r : Bool} (h : i < at + n) (e : r ≡ test i) where
    pub turn : not r ≡ false → Asking test at n (i + 1)
    turn t = record { low = omega arith; high = omega arith; rest = here h ∙ simp (accepted e t) }

    pub stopped : not r ≡ true → false ≡ all_in test at n
    stopped t = sym (here h ∙ simp (refused e t))

  pub ended : at + n ≤ i → true ≡ all_in test at n
  ended h =
      let e : at + n - i ≡ 0 = omega arith in
      sym (a.rest ∙ rw e (none_left test i))
