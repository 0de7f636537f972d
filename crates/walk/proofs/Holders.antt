-- The function that holds an address: what the functions from the i-th on say.
use mathlib.Core.Path.{refl, ◌≡◌}
use mathlib.Core.Bool.{true, false}
use mathlib.Core.List.{List}
use Prim.Native.Nat.{ℕ, zero, suc, ◌+◌, ◌-◌, ◌*◌, ◌/◌, ◌<◌, ◌≤◌}
use native.Mathlib.Omega.{arith}
use native.Mathlib.Nat.{add-zero, zero-add}
use borrow.Author.Tests.{lt-leb, le-leb}
use lib.ListN.{length, get_or}
use lib.Dec.{ltb}
use Rattle.format.specs.Prelude.{pick, each}
use Rattle.format.proofs.Choice.{either}
use Rattle.walk.specs.Walk.{Placed, holds, held_from, placed_at, placed_of}
use Rattle.std.specs.Prelude.{Some, None, MatchOption, option_map}
use Rattle.std.specs.Prelude as code
use Rattle.walk.specs.declared.Holder.{Holder}
use Rattle.walk.specs.Standing.{holder_of}

abbrev pub placed : ℕ → ℕ → Placed
placed start size = record { start = start; size = size }

-- the function at i, and where the address lies in it
abbrev pub held_in : List ℕ → (a i : ℕ) → Holder
held_in xs a i = record { position = i; offset = a - get_or xs (2 * i) 0 }

module _ (start size a : ℕ) where
  pub holds_low : a < start → false ≡ holds a (placed start size)
  unfolding holds
  holds_low h = simp (lt-leb start a h)

  pub holds_is : start ≤ a → ltb (a - start) size ≡ holds a (placed start size)
  unfolding holds
  holds_is h = simp (le-leb start a h)

  pub held_start : holds a (placed start size) ≡ true → start ≤ a
  held_start e = either start a (λ h. h) λ h. let z : ◌≡◌ {A = ℕ} 0 1 = cc (holds_low h) in absurd (omega arith)

-- the first of the functions from `at` on that holds the address, where `find` found it at r
held_at : (xs : List ℕ) (a at n : ℕ) (r : code.Option ℕ)
    → MatchOption r ((k : ℕ) → at ≤ k → k < at + n → holds a (placed_at xs k) ≡ false)
    (λ i. (at ≤ i) × (i < at + n) × (holds a (placed_at xs i) ≡ true) × ((k : ℕ) → at ≤ k → k < i → holds a (placed_at xs k) ≡ false))
    → option_map (held_in xs a) r ≡ holder_of (held_from a at (each (placed_at xs) at n))
unfolding held_from each pick placed_at
held_at xs a at zero None h = refl
held_at xs a at zero (Some i) h = absurd (omega (arith, h.0, h.1))
held_at xs a at (suc n) None h =
    rw (h at (omega arith) (omega arith)) (held_at xs a (suc at) n None (λ k l g. h k (omega arith) (omega arith)))
held_at xs a at (suc n) (Some i) h =
    either i at
    (λ l. let e : i ≡ at = omega (arith, h.0) in let g : holds a (placed_at xs at) ≡ true = rw e at h.2 in rw (e, g) (simp add-zero))
    (λ l.
    rw (h.3 at (omega arith) l)
    (held_at xs a (suc at) n (Some i) (omega arith, omega (arith, h.1), h.2, λ k g m. h.3 k (omega arith) m)))

pub holder_found : (xs : List ℕ) (a : ℕ) (r : code.Option ℕ)
    → MatchOption r ((k : ℕ) → 0 ≤ k → k < length xs / 2 → holds a (placed (get_or xs (2 * k) 0) (get_or xs (2 * k + 1) 0)) ≡ false)
    (λ i. (0 ≤ i) × (i < length xs / 2) × (holds a (placed (get_or xs (2 * i) 0) (get_or xs (2 * i + 1) 0)) ≡ true)
    × ((k : ℕ) → 0 ≤ k → k < i → holds a (placed (get_or xs (2 * k) 0) (get_or xs (2 * k + 1) 0)) ≡ false))
    → option_map (held_in xs a) r ≡ holder_of (held_from a 0 (placed_of xs))
unfolding placed_of placed_at
holder_found xs a r h = held_at xs a 0 (length xs / 2) r (simp (add-zero, zero-add) h)
