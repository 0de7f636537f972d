-- A word's bounds.
use mathlib.Core.Path.{◌≡◌}
use mathlib.Core.Bool.{◌||◌}
use mathlib.Core.Logic.{⊎_elim}
use Prim.Native.Nat.{ℕ, ◌≤◌}
use native.Mathlib.Omega.{arith}
use lib.Dec.{T, eqb}
use mir.Facts.{or_yes, eqb_yes}
use Rattle.format.specs.Machine.{is_word_size}

pub word_bounds : (w : ℕ) → T (is_word_size w) → (2 ≤ w) × (w ≤ 8)
unfolding is_word_size
word_bounds w t =
    ⊎_elim
    (λ h. ⊎_elim (λ a. let e : w ≡ 2 = eqb_yes a in (omega arith, omega arith)) (λ a. let e : w ≡ 4 = eqb_yes a in (omega arith, omega arith))
    (or_yes (eqb w 2) (eqb w 4) h))
    (λ a. let e : w ≡ 8 = eqb_yes a in (omega arith, omega arith))
    (or_yes (eqb w 2 || eqb w 4) (eqb w 8) t)
