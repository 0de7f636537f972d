-- The frame pointer set, and a register pushed: by the code's tests.
use mathlib.Core.Path.{◌≡◌, refl}
use Prim.Native.Nat.{ℕ, ◌*◌, ◌≤◌}
use native.Mathlib.Omega.{arith}
use mathlib.Core.Bool.{Bool, true, false, and-false}
use mathlib.Core.List.{[], ◌∷◌}
use borrow.Author.Tests.{eq-eqb, ne_eqb}
use lib.Dec.{eqb}
use lib.IntN.{ℤ, pos, neg_ℤ, ◌-ℤ◌}
use denote.Enum.Declared.{tag_of}
use types.Run.{OneOf}
use Rattle.format.specs.contracts.Row.{the_type}
use Rattle.format.specs.Prelude.{pick, good, bad}
use Rattle.format.specs.declared.Row.{Row}
use Rattle.format.specs.declared.Machine.{Machine}
use Rattle.format.specs.declared.Row.TheVariants.{DefCfa, DefCfaOffset, DefCfaRegister, Offset, Restore, Undefined, RememberState, RestoreState, NegateRaState, SameValue, InRegister}
use Rattle.format.specs.Rows.{kind_of, reg_of, offset_of, same_offset}
use Rattle.format.specs.X64.{frame, is_push}
use Rattle.prologue.specs.declared.Walk.{Walk}
use Rattle.prologue.specs.Groups.{is_pushed, knows, known, stepped, added, lone_in, push_in}
use Rattle.prologue.proofs.Arms.{other_kind}

module _ (m : Machine) (reg : ℕ) (w : Walk) where
  pub set_other : (z : ℤ) → (reg ≡ m.frame → ⊥) → bad 32 ≡ lone_in m false (DefCfa reg z) w
  unfolding lone_in pick
  set_other z n = simp (ne_eqb reg m.frame n)

  pub set_moved : (z : ℤ) → same_offset z w.below ≡ false → bad 32 ≡ lone_in m false (DefCfa reg z) w
  unfolding lone_in pick
  set_moved z n = simp (n, and-false)

  pub set_yes : (z : ℤ) → reg ≡ m.frame → same_offset z w.below ≡ true → good (added m w frame w.below) ≡ lone_in m false (DefCfa reg z) w
  unfolding lone_in pick
  set_yes z e t = simp (eq-eqb reg m.frame e, t)

  module _ (last : Bool) where
    pub early_other : (reg ≡ m.frame → ⊥) → bad 31 ≡ lone_in m last (DefCfaRegister reg) w
    unfolding lone_in pick
    early_other n = simp (ne_eqb reg m.frame n)

    pub early_more : last ≡ false → bad 31 ≡ lone_in m last (DefCfaRegister reg) w
    unfolding lone_in pick
    early_more n = simp (n, and-false)

    pub early_far : same_offset w.below (pos (2 * m.word)) ≡ false → bad 31 ≡ lone_in m last (DefCfaRegister reg) w
    unfolding lone_in pick
    early_far n = simp (n, and-false)

    pub early_steps : is_pushed w.steps ≡ false → bad 31 ≡ lone_in m last (DefCfaRegister reg) w
    unfolding lone_in pick
    early_steps n = simp (n, and-false)

    pub early_yes : reg ≡ m.frame → last ≡ true → same_offset w.below (pos (2 * m.word)) ≡ true → is_pushed w.steps ≡ true
        → good (added m w frame w.below) ≡ lone_in m last (DefCfaRegister reg) w
    unfolding lone_in pick
    early_yes e l t s = simp (eq-eqb reg m.frame e, l, t, s)

-- ---- a register pushed

module _ (m : Machine) (reg : ℕ) (z y : ℤ) (w : Walk) where
  pub push_far : same_offset (z -ℤ w.below) (pos m.word) ≡ false → bad 33 ≡ push_in m (DefCfaOffset z) (Offset reg y) w
  unfolding push_in kind_of offset_of pick
  push_far n = simp n

  pub push_elsewhere : same_offset y (neg_ℤ z) ≡ false → bad 33 ≡ push_in m (DefCfaOffset z) (Offset reg y) w
  unfolding push_in kind_of offset_of pick
  push_elsewhere n = simp (n, and-false)

  pub push_yes : same_offset (z -ℤ w.below) (pos m.word) ≡ true → same_offset y (neg_ℤ z) ≡ true
      → good (stepped w (eqb reg m.frame) (knows m reg) z) ≡ push_in m (DefCfaOffset z) (Offset reg y) w
  unfolding push_in added is_push known kind_of reg_of offset_of pick
  push_yes t u = simp (t, u)

-- ---- two rows that are no push

module _ (m : Machine) (a b : Row) (w : Walk) where
  pub push_first : OneOf (0 ∷ 2 ∷ 3 ∷ 4 ∷ 5 ∷ 6 ∷ 7 ∷ 8 ∷ 9 ∷ 10 ∷ []) (tag_of the_type a) → bad 33 ≡ push_in m a b w
  unfolding push_in pick
  push_first h = simp (ne_eqb (kind_of a) 1 (other_kind (0 ∷ 2 ∷ 3 ∷ 4 ∷ 5 ∷ 6 ∷ 7 ∷ 8 ∷ 9 ∷ 10 ∷ []) 1 a tt h))

  pub push_second : OneOf (0 ∷ 1 ∷ 2 ∷ 4 ∷ 5 ∷ 6 ∷ 7 ∷ 8 ∷ 9 ∷ 10 ∷ []) (tag_of the_type b) → bad 33 ≡ push_in m a b w
  unfolding push_in pick
  push_second h = simp (ne_eqb (kind_of b) 3 (other_kind (0 ∷ 1 ∷ 2 ∷ 4 ∷ 5 ∷ 6 ∷ 7 ∷ 8 ∷ 9 ∷ 10 ∷ []) 3 b tt h), and-false)

-- ---- a row that no instruction of a prologue has alone

pub lone_other : (m : Machine) (last : Bool) (r : Row) (w : Walk) → 4 ≤ kind_of r → lone_in m last r w ≡ bad 33
unfolding lone_in kind_of
lone_other m last (DefCfa reg z) w h = absurd (omega arith)
lone_other m last (DefCfaOffset z) w h = absurd (omega arith)
lone_other m last (DefCfaRegister reg) w h = absurd (omega arith)
lone_other m last (Offset reg z) w h = absurd (omega arith)
lone_other m last (Restore reg) w h = refl
lone_other m last (Undefined reg) w h = refl
lone_other m last RememberState w h = refl
lone_other m last RestoreState w h = refl
lone_other m last NegateRaState w h = refl
lone_other m last (SameValue reg) w h = refl
lone_other m last (InRegister reg other) w h = refl
