-- The first number that passes a test, sought by a loop that goes from one number to the next.
use mathlib.Core.Path.{◌≡◌, refl, sym, ap, ◌∙◌}
use Prim.Native.Nat.{ℕ, zero, suc, ◌+◌, ◌-◌, ◌≤◌, ◌<◌}
use native.Mathlib.Omega.{arith}
use native.Mathlib.Numerals.{add-one}
use mathlib.Core.Bool.{Bool, true, false}
use Rattle.format.specs.Prelude.{pick}
use Rattle.format.specs.Headers.{same_key}
use Rattle.format.proofs.Choice.{pick_yes, pick_no, tested}
use Rattle.header_keys.specs.Inputs.{Inputs}
use Rattle.owners.specs.Owners.{key_at, first_from, owner}

-- function j has the key of function k
abbrev pub shares : Inputs → (k j : ℕ) → Bool
shares x k j = same_key (key_at x j) (key_at x k)

-- below number j of k, none passes
pub record Finding (test : ℕ → Bool) (k j : ℕ) : Type 0 where
  pub high : j ≤ k
  pub rest : first_from test 0 k ≡ first_from test j (k - j)

pub start : (test : ℕ → Bool) (k : ℕ) → Finding test k 0
start test k = record { high = omega arith; rest = let e : k ≡ k - 0 = omega arith in ap (first_from test 0) e }

module _ {test : ℕ → Bool} {k j : ℕ} (f : Finding test k j) where
  module _ (h : j < k) where
    here : first_from test 0 k ≡ pick (test j) j (first_from test (j + 1) (k - (j + 1)))
    unfolding first_from
    here =
        let e : k - j ≡ suc (k - suc j) = omega arith in
        f.rest ∙ rw (add-one j, e) refl

    pub missed : test j ≡ false → Finding test k (j + 1)
    unfolding pick
    missed t = record { high = omega arith; rest = here ∙ simp t }

    pub found : test j ≡ true → j ≡ first_from test 0 k
    unfolding pick
    found t = sym (here ∙ simp t)

  pub ended : k ≤ j → k ≡ first_from test 0 k
  unfolding first_from
  ended h =
      let e : k - j ≡ 0 = omega arith in
      let same : j ≡ k = omega (arith, f.high) in
      sym (f.rest ∙ rw e same)

-- ---- what callers know of the owner

first_low : (test : ℕ → Bool) (j n : ℕ) → first_from test j n ≤ j + n
unfolding first_from
first_low test j zero = omega arith
first_low test j (suc n) =
    tested (test j) (λ t. rw (pick_yes (test j) j (first_from test (suc j) n) t) (omega arith))
    (λ t. rw (pick_no (test j) j (first_from test (suc j) n) t) (omega (arith, first_low test (suc j) n)))

-- it is no later function
pub owner_low : (x : Inputs) (k : ℕ) → owner x k ≤ k
unfolding owner
owner_low x k = omega (arith, first_low (shares x k) 0 k)
