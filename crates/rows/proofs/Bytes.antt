-- The bytes of a row part by part, as the code writes them, and how long they are.
use mathlib.Core.Path.{◌≡◌}
use mathlib.Core.Bool.{true, false}
use mathlib.Core.List.{List, [], ◌∷◌, ◌++◌, append-nil}
use Prim.Native.Nat.{ℕ, ◌+◌, ◌^◌, ◌≤◌, ◌<◌}
use native.Mathlib.Omega.{arith}
use lib.IntN.{ℤ, pos, negsuc, nat_abs}
use lib.ListN.{length}
use lib.Signed.{lt_z, mag}
use mir.Syntax.{w64}
use mir.Val.{SFits, of_z, to_z}
use mir.Facts.{to_z-of_z}
use Rattle.format.specs.Leb.{uleb, sleb}
use Rattle.format.specs.Rows.{with_register, saved_bytes}
use Rattle.format.proofs.Choice.{if-le, if-gt, either}
use Rattle.format.proofs.LebBack.{uleb_short, sleb_short_pos, sleb_short_neg}
use Rattle.rows.proofs.Signs.{negative, positive}

-- ---- an opcode with its register

module _ (short long reg : ℕ) (bs : List ℕ) where
  pub register_in : reg ≤ 63 → with_register short long reg bs ≡ (short + reg) ∷ bs
  unfolding with_register
  register_in h = if-le reg 63 _ _ h

  pub register_behind : 63 < reg → with_register short long reg bs ≡ long ∷ (uleb reg ++ bs)
  unfolding with_register
  register_behind h = if-gt reg 63 _ _ h

pub register_first : (short long reg : ℕ) (bs : List ℕ) → with_register short long reg bs ≡ with_register short long reg [] ++ bs
register_first short long reg bs =
    either reg 63 (λ l. rw (register_in short long reg bs l, register_in short long reg [] l))
    (λ g. rw (register_behind short long reg bs g, register_behind short long reg [] g, append-nil (uleb reg)))

-- the opcode is no matter
pub register-length : (short long reg : ℕ) → length (with_register short long reg []) ≡ length (with_register 0 0 reg [])
register-length short long reg =
    either reg 63 (λ l. rw (register_in short long reg [] l, register_in 0 0 reg [] l))
    (λ g. rw (register_behind short long reg [] g, register_behind 0 0 reg [] g))

-- ---- a saved register, by the code's test of the sign

module _ (reg : ℕ) (z : ℤ) (f : SFits w64 z) where
  pub saved_above : lt_z (to_z w64 (of_z w64 z)) (pos 0) ≡ true → saved_bytes reg z ≡ (0x11 ∷ uleb reg) ++ sleb (to_z w64 (of_z w64 z))
  unfolding saved_bytes
  saved_above h = rw (to_z-of_z f, negative z f h)

  pub saved_below : lt_z (to_z w64 (of_z w64 z)) (pos 0) ≡ false → saved_bytes reg z ≡ with_register 0x80 0x05 reg [] ++ uleb (nat_abs (to_z w64 (of_z w64 z)))
  unfolding saved_bytes
  saved_below h = rw (to_z-of_z f, positive z f h) (register_first 0x80 0x05 reg (uleb (mag z)))

-- ---- lengths

pub uleb_ten : (n : ℕ) → n < 2 ^ 64 → length (uleb n) ≤ 10
uleb_ten n h = uleb_short 9 n (omega arith)

pub sleb_ten : (z : ℤ) → mag z < 2 ^ 63 → length (sleb z) ≤ 10
sleb_ten (pos n) h = sleb_short_pos 9 n (omega arith)
sleb_ten (negsuc n) h = sleb_short_neg 9 n (omega arith)

pub register_eleven : (short long reg : ℕ) → reg < 2 ^ 64 → length (with_register short long reg []) ≤ 11
register_eleven short long reg h =
    either reg 63 (λ l. rw (register_in short long reg [] l) (omega arith))
    (λ g. rw (register_behind short long reg [] g, append-nil (uleb reg)) (omega (arith, uleb_ten reg h)))
