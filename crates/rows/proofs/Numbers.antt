-- The bytes of a row out of the lists, by the number of its kind.
use mathlib.Core.Path.{◌≡◌}
use mathlib.Core.List.{[], ◌∷◌, ◌++◌}
use Prim.Native.Nat.{ℕ}
use borrow.Author.Tests.{ne_eqb}
use mir.Syntax.{w32}
use mir.Val.{to_z}
use Rattle.format.specs.Prelude.{pick}
use Rattle.format.specs.Leb.{uleb}
use Rattle.format.specs.Lists.{row_of}
use Rattle.format.specs.Rows.{factor, cfa_bytes, with_register, saved_bytes, row_bytes}

module _ (w reg off : ℕ) {kind : ℕ} where
  pub bytes_0 : kind ≡ 0 → row_bytes w (row_of kind reg off) ≡ cfa_bytes w 0x0c 0x12 (uleb reg) (to_z w32 off)
  unfolding row_bytes row_of pick
  bytes_0 e = rw e

  pub bytes_1 : kind ≡ 1 → row_bytes w (row_of kind reg off) ≡ cfa_bytes w 0x0e 0x13 [] (to_z w32 off)
  unfolding row_bytes row_of pick
  bytes_1 e = rw e

  pub bytes_2 : kind ≡ 2 → row_bytes w (row_of kind reg off) ≡ 0x0d ∷ uleb reg
  unfolding row_bytes row_of pick
  bytes_2 e = rw e

  pub bytes_3 : kind ≡ 3 → row_bytes w (row_of kind reg off) ≡ saved_bytes reg (factor w (to_z w32 off))
  unfolding row_bytes row_of pick
  bytes_3 e = rw e

  pub bytes_4 : kind ≡ 4 → row_bytes w (row_of kind reg off) ≡ with_register 0xc0 0x06 reg []
  unfolding row_bytes row_of pick
  bytes_4 e = rw e

  pub bytes_5 : kind ≡ 5 → row_bytes w (row_of kind reg off) ≡ 0x07 ∷ uleb reg
  unfolding row_bytes row_of pick
  bytes_5 e = rw e

  pub bytes_6 : kind ≡ 6 → row_bytes w (row_of kind reg off) ≡ 0x0a ∷ []
  unfolding row_bytes row_of pick
  bytes_6 e = rw e

  pub bytes_7 : kind ≡ 7 → row_bytes w (row_of kind reg off) ≡ 0x0b ∷ []
  unfolding row_bytes row_of pick
  bytes_7 e = rw e

  pub bytes_9 : kind ≡ 9 → row_bytes w (row_of kind reg off) ≡ 0x08 ∷ uleb reg
  unfolding row_bytes row_of pick
  bytes_9 e = rw e

  pub bytes_10 : kind ≡ 10 → row_bytes w (row_of kind reg off) ≡ 0x09 ∷ (uleb reg ++ uleb off)
  unfolding row_bytes row_of pick
  bytes_10 e = rw e

  -- the one kind that is left
  pub bytes_rest : (kind ≡ 0 → ⊥) → (kind ≡ 1 → ⊥) → (kind ≡ 2 → ⊥) → (kind ≡ 3 → ⊥) → (kind ≡ 4 → ⊥) → (kind ≡ 5 → ⊥) → (kind ≡ 6 → ⊥) → (kind ≡ 7 → ⊥) → (kind ≡ 9 → ⊥) → (kind ≡ 10 → ⊥) → row_bytes w (row_of kind reg off) ≡ 0x2d ∷ []
  unfolding row_bytes row_of pick
  bytes_rest n0 n1 n2 n3 n4 n5 n6 n7 n9 n10 = simp (ne_eqb kind 0 n0, ne_eqb kind 1 n1, ne_eqb kind 2 n2, ne_eqb kind 3 n3, ne_eqb kind 4 n4, ne_eqb kind 5 n5, ne_eqb kind 6 n6, ne_eqb kind 7 n7, ne_eqb kind 9 n9, ne_eqb kind 10 n10)
