-- The questions of one code: by the code's tests, and what an answer and a yes say.
use mathlib.Core.Path.{◌≡◌, refl, sym, ap, ◌∙◌}
use Prim.Native.Nat.{ℕ, suc, ◌%◌, ◌^◌, ◌≤◌, ◌<◌}
use native.Mathlib.Omega.{arith}
use mathlib.Core.Bool.{Bool, true, false, not, ◌||◌}
use mathlib.Core.Option.{Option, none, some}
use Rattle.std.specs.Prelude.{Ok, Err}
use borrow.Author.Tests.{lt-ltb, le-ltb, le-leb, lt-leb, ne_eqb}
use lib.Dec.{T, leb, ltb, eqb, leb→le, eqb→eq}
use lib.IntN.{ℤ, pos, negsuc}
use lib.Signed.{lt_z}
use mir.Syntax.{w64}
use mir.Val.{SFits, of_z, to_z}
use mir.Facts.{to_z-of_z, and_yes, or_no, eqb_no, T_not-not}
use Rattle.format.specs.Prelude.{pick}
use Rattle.format.specs.declared.Seh.{Seh}
use Rattle.format.specs.declared.Seh.TheVariants.{Push, Alloc, Frame, Save}
use Rattle.format.specs.X64.{size64, register_in, alloc_no, save_no, operand_no, code_no, frame_ok, frame_no, frame_or}
use Rattle.format.proofs.Choice.{pick_no}
use Rattle.rows.proofs.Signs.{negative, positive}
use Rattle.codes.specs.Codes.{yes_or_no}

-- ---- an allocation, by its size

alloc_as : (z : ℤ) → alloc_no z ≡ pick (eqb (size64 z) 0 || not (eqb (size64 z % 8) 0)) (some 36) (pick (ltb (size64 z) (2 ^ 32)) none (some 37))
unfolding alloc_no size64 pick
alloc_as (pos n) = refl
alloc_as (negsuc n) = refl

module _ {z : ℤ} (f : SFits w64 z) {n : ℕ} (e : n ≡ size64 (to_z w64 (of_z w64 z))) where
  sized : size64 z ≡ n
  sized = sym (e ∙ ap size64 (to_z-of_z f))

  pub alloc_none : n ≡ 0 → Err 36 ≡ yes_or_no (alloc_no z)
  unfolding yes_or_no pick
  alloc_none h = simp (alloc_as z, sized, h)

  pub alloc_odd : (n % 8 ≡ 0 → ⊥) → Err 36 ≡ yes_or_no (alloc_no z)
  unfolding yes_or_no pick
  alloc_odd h = let k : n ≡ 0 → ⊥ = λ g. h (rw g) in simp (alloc_as z, sized, ne_eqb n 0 k, ne_eqb (n % 8) 0 h)

  module _ (k : n ≡ 0 → ⊥) (h : n % 8 ≡ 0) where
    pub alloc_fits : n < 2 ^ 32 → Ok tt ≡ yes_or_no (alloc_no z)
    unfolding yes_or_no pick
    alloc_fits l = simp (alloc_as z, sized, ne_eqb n 0 k, h, lt-ltb n (2 ^ 32) l)

    pub alloc_far : 2 ^ 32 ≤ n → Err 37 ≡ yes_or_no (alloc_no z)
    unfolding yes_or_no pick
    alloc_far l = simp (alloc_as z, sized, ne_eqb n 0 k, h, le-ltb n (2 ^ 32) l)

-- ---- a save and a frame offset, by the sign and the size

module _ {z : ℤ} (f : SFits w64 z) where
  module _ (s : lt_z (to_z w64 (of_z w64 z)) (pos 0) ≡ true) where
    pub save_below : Err 38 ≡ yes_or_no (save_no z)
    unfolding yes_or_no save_no
    save_below = rw (negative z f s)

    pub frame_below : Err 41 ≡ yes_or_no (pick (frame_ok z) none (some 41))
    unfolding yes_or_no frame_ok pick
    frame_below = rw (negative z f s)

  module _ (s : lt_z (to_z w64 (of_z w64 z)) (pos 0) ≡ false) {n : ℕ} (e : n ≡ size64 (to_z w64 (of_z w64 z))) where
    placed : z ≡ pos n
    unfolding size64
    placed = let p = positive z f s in p ∙ ap pos (sym (e ∙ ap size64 (to_z-of_z f ∙ p)))

    pub save_fits : n < 2 ^ 32 → Ok tt ≡ yes_or_no (save_no z)
    unfolding yes_or_no save_no pick
    save_fits l = simp (placed, lt-ltb n (2 ^ 32) l)

    pub save_far : 2 ^ 32 ≤ n → Err 39 ≡ yes_or_no (save_no z)
    unfolding yes_or_no save_no pick
    save_far l = simp (placed, le-ltb n (2 ^ 32) l)

    pub frame_far : 240 < n → Err 41 ≡ yes_or_no (pick (frame_ok z) none (some 41))
    unfolding yes_or_no frame_ok pick
    frame_far l = simp (placed, lt-leb n 240 l)

    module _ (l : n ≤ 240) where
      pub frame_odd : (n % 16 ≡ 0 → ⊥) → Err 41 ≡ yes_or_no (pick (frame_ok z) none (some 41))
      unfolding yes_or_no frame_ok pick
      frame_odd h = simp (placed, le-leb n 240 l, ne_eqb (n % 16) 0 h)

      pub frame_fits : n % 16 ≡ 0 → Ok tt ≡ yes_or_no (pick (frame_ok z) none (some 41))
      unfolding yes_or_no frame_ok pick
      frame_fits h = simp (placed, le-leb n 240 l, h)

-- ---- a code, by its parts

module _ (at : ℕ) (code : Seh) {b : Bool} (e : b ≡ leb (register_in code) 15) where
  pub no_register : b ≡ false → Err 34 ≡ yes_or_no (code_no (at, code))
  unfolding yes_or_no code_no pick
  no_register h = rw (sym e ∙ h)

  module _ (h : b ≡ true) where
    pub no_offset : 255 < at → Err 35 ≡ yes_or_no (code_no (at, code))
    unfolding yes_or_no code_no pick
    no_offset l = rw (sym e ∙ h, lt-leb at 255 l)

    pub no_operand : at ≤ 255 → yes_or_no (operand_no code) ≡ yes_or_no (code_no (at, code))
    unfolding code_no pick
    no_operand l = rw (sym e ∙ h, le-leb at 255 l)

-- ---- what an answer says

pub none_of : (o : Option ℕ) → Ok tt ≡ yes_or_no o → o ≡ none
unfolding yes_or_no
none_of none e = refl
none_of (some n) e = cc

pub some_of : (o : Option ℕ) (n : ℕ) → Err n ≡ yes_or_no o → o ≡ some n
unfolding yes_or_no
some_of none n e = cc
some_of (some m) n e = cc

-- ---- what a yes says

module _ (n : ℕ) (o : Option ℕ) where
  some_none : some n ≡ none → ⊥
  some_none e = let z : ◌≡◌ {A = ℕ} 0 1 = cc in omega arith

  -- a choice between a number and something else is none: which side was taken
  pub yes_of : (b : Bool) → pick b o (some n) ≡ none → T b × (o ≡ none)
  unfolding pick
  yes_of true e = (tt, e)
  yes_of false e = absurd (some_none e)

  no_of : (b : Bool) → pick b (some n) o ≡ none → T (not b)
  unfolding pick
  no_of true e = absurd (some_none e)
  no_of false e = tt

pub record Said (at : ℕ) (code : Seh) : Type 0 where
  pub register : register_in code ≤ 15
  pub offset : at ≤ 255
  pub operand : operand_no code ≡ none

pub said : (at : ℕ) (code : Seh) → code_no (at, code) ≡ none → Said at code
unfolding code_no
said at code e =
    let a = yes_of 34 (pick (leb at 255) (operand_no code) (some 35)) (leb (register_in code) 15) e in
    let b = yes_of 35 (operand_no code) (leb at 255) a.1 in
    record { register = leb→le (register_in code) 15 a.0; offset = leb→le at 255 b.0; operand = b.1 }

pub alloc_said : (z : ℤ) → alloc_no z ≡ none → (8 ≤ size64 z) × (size64 z < 2 ^ 32)
alloc_said z e =
    let n : ℕ = size64 z in
    let b : Bool = eqb n 0 || not (eqb (n % 8) 0) in
    let all = sym (alloc_as z) ∙ e in
    let t = no_of 36 (pick (ltb n (2 ^ 32)) none (some 37)) b all in
    let parts = or_no (eqb n 0) (not (eqb (n % 8) 0)) t in
    let a : n ≡ 0 → ⊥ = eqb_no {a = n} {b = 0} parts.0 in
    let m : n % 8 ≡ 0 = eqb→eq (n % 8) 0 (T_not-not (eqb (n % 8) 0) parts.1) in
    let l = yes_of 37 none (ltb n (2 ^ 32)) (sym (pick_no b (some 36) (pick (ltb n (2 ^ 32)) none (some 37)) t) ∙ all) in
    (omega (arith, a, m), leb→le (suc n) (2 ^ 32) l.0)

pub save_said : (z : ℤ) → save_no z ≡ none → size64 z < 2 ^ 32
unfolding save_no size64
save_said (negsuc n) e = omega arith
save_said (pos n) e = leb→le (suc n) (2 ^ 32) (yes_of 39 none (ltb n (2 ^ 32)) e).0

frame_high : (z : ℤ) → T (frame_ok z) → size64 z ≤ 240
unfolding frame_ok size64
frame_high (negsuc n) t = omega arith
frame_high (pos n) t = leb→le n 240 (and_yes (leb n 240) (eqb (n % 16) 0) t).0

pub frame_said : {code : Seh} {reg : ℕ} {z : ℤ} → code ≡ Frame reg z → (register_in code ≤ 15) × (frame_no code ≡ none) → (reg ≤ 15) × (size64 z ≤ 240)
unfolding register_in frame_no
frame_said {code} {reg} {z} e h =
    let g = rw e at h in
    (g.0, frame_high z (yes_of 41 none (frame_ok z) g.1).0)

-- ---- a code that is no frame code

pub no_frame : (s : Seh) → ((reg : ℕ) (z : ℤ) → s ≡ Frame reg z → ⊥) → (Ok tt ≡ yes_or_no (frame_no s)) × ((b : ℕ) → b ≡ frame_or b s)
unfolding yes_or_no frame_no frame_or
no_frame (Push reg) n = (refl, λ b. refl)
no_frame (Alloc z) n = (refl, λ b. refl)
no_frame (Frame reg z) n = absurd (n reg z refl)
no_frame (Save reg vector z) n = (refl, λ b. refl)
