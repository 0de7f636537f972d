-- A code by its kind: question 13.
use mathlib.Core.Path.{◌≡◌}
use mathlib.Core.Bool.{true, false, and-true, and-false}
use Prim.Native.Nat.{ℕ, ◌≤◌, ◌<◌}
use native.Mathlib.Omega.{arith}
use lib.Dec.{leb, eqb}
use borrow.Author.Tests.{le-leb, lt-leb, eq-eqb, ne_eqb}
use Rattle.arm64.specs.Writer.{has_register, has_offset, code_ok}

module _ (kind reg off : ℕ) where
  pub no_kind : 17 < kind → false ≡ code_ok kind reg off
  unfolding code_ok
  no_kind h = simp (lt-leb kind 17 h)

  module _ (h : kind ≤ 12) where
    low : (leb kind 17 ≡ true) × (leb kind 12 ≡ true)
    low = (le-leb kind 17 (omega (arith, h)), le-leb kind 12 h)

    pub both : 4 ≤ kind → true ≡ code_ok kind reg off
    unfolding code_ok has_register has_offset
    both l = simp (low.0, low.1, le-leb 4 kind l)

    pub offset_alone : kind < 4 → eqb reg 0 ≡ code_ok kind reg off
    unfolding code_ok has_register has_offset
    offset_alone l = simp (low.0, low.1, lt-leb 4 kind l, and-true)

  module _ (h : kind ≤ 17) (g : 12 < kind) where
    high : (leb kind 17 ≡ true) × (leb kind 12 ≡ false)
    high = (le-leb kind 17 h, lt-leb kind 12 g)

    pub register_there : (reg ≡ 0 → ⊥) → false ≡ code_ok kind reg off
    unfolding code_ok has_register has_offset
    register_there n = simp (high.0, high.1, ne_eqb reg 0 n, and-false)

    module _ (r : reg ≡ 0) where
      pub add_fp : kind ≡ 14 → true ≡ code_ok kind reg off
      unfolding code_ok has_register has_offset
      add_fp e = simp (high.0, high.1, eq-eqb reg 0 r, eq-eqb kind 14 e, and-false)

      pub neither : (kind ≡ 14 → ⊥) → eqb off 0 ≡ code_ok kind reg off
      unfolding code_ok has_register has_offset
      neither n = simp (high.0, high.1, eq-eqb reg 0 r, ne_eqb kind 14 n, and-false)
