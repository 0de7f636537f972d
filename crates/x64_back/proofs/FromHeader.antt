-- What a code that was read names: a register below 16, and of a frame code the register and the offset of the header's frame byte.
use mathlib.Core.Path.{◌≡◌}
use Prim.Native.Nat.{ℕ, zero, suc, ◌+◌, ◌*◌, ◌/◌, ◌%◌, ◌<◌, ◌≤◌}
use native.Mathlib.Omega.{arith}
use mathlib.Core.Option.{Option, none, some}
use mathlib.Core.List.{List, [], ◌∷◌}
use lib.Dec.{eqb}
use lib.IntN.{pos}
use lib.ListN.{length, get_or}
use Rattle.format.specs.Prelude.{Read, next, after}
use Rattle.format.specs.Leb.{read_little}
use Rattle.format.specs.declared.Seh.{Seh}
use Rattle.format.specs.declared.Seh.TheVariants.{Push, Alloc, Frame, Save}
use Rattle.format.specs.X64.{size64, register_in}
use Rattle.format.specs.X64Reader.{operand_bytes, frame_register, frame_offset, large_size, meaning, read_operand, read_code, read_codes_f, read_codes}
use Rattle.format.proofs.Choice.{picked}
use Rattle.format.proofs.Each.{Each}

abbrev pub FromHeader : (frame : ℕ) → Seh → Type 0
FromHeader frame (Push reg) = reg < 16
FromHeader frame (Alloc z) = 0 ≤ frame
FromHeader frame (Frame reg z) = (reg ≡ frame_register frame) × (size64 z ≡ frame_offset frame)
FromHeader frame (Save reg vector z) = reg < 16

pub below_16 : (frame : ℕ) (c : Seh) → FromHeader frame c → register_in c < 16
unfolding register_in
below_16 frame (Push reg) h = h
below_16 frame (Alloc z) h = omega arith
below_16 frame (Frame reg z) h = omega (arith, h.0)
below_16 frame (Save reg vector z) h = h

-- ---- bytes, and those that are left when some were read

abbrev pub Bytes : List ℕ → Type 0
Bytes bs = (i : ℕ) → get_or bs i 0 < 256

abbrev Left : Read ℕ → Type 0
Left none = 0 ≤ 0
Left (some x) = Bytes x.1

next_left : (b : ℕ) (r : Read ℕ) → Left r → Left (next {B = ℕ × List ℕ} r (λ v left. some (b + 256 * v, left)))
unfolding next
next_left b none h = omega arith
next_left b (some x) h = h

little_left : (k : ℕ) (bs : List ℕ) → Bytes bs → Left (read_little k bs)
unfolding read_little
little_left zero bs h = h
little_left (suc k) [] h = omega arith
little_left (suc k) (b ∷ bs) h = next_left b (read_little k bs) (little_left k bs (λ i. h (suc i)))

-- ---- one code

module _ (frame : ℕ) where
  meaning_from : (op info v : ℕ) → info < 16 → FromHeader frame (meaning frame op info v)
  unfolding meaning size64
  meaning_from op info v h =
      picked (FromHeader frame) (eqb op 0) {x = Push info} h
      (picked (FromHeader frame) (eqb op 1) {x = Alloc (pos (large_size info v))} (omega arith)
      (picked (FromHeader frame) (eqb op 2) {x = Alloc (pos (8 * info + 8))} (omega arith)
      (picked (FromHeader frame) (eqb op 3) {x = Frame (frame_register frame) (pos (frame_offset frame))} (omega arith, omega arith)
      (picked (FromHeader frame) (eqb op 4) h
      (picked (FromHeader frame) (eqb op 5) h
      (picked (FromHeader frame) (eqb op 8) h h))))))

  abbrev Operand : Read Seh → Type 0
  Operand none = 0 ≤ frame
  Operand (some x) = FromHeader frame x.0 × Bytes x.1

  by_little : (op info : ℕ) (r : Read ℕ) → info < 16 → Left r → Operand (next {B = Seh × List ℕ} r (λ v rest. some (meaning frame op info v, rest)))
  unfolding next
  by_little op info none h l = omega arith
  by_little op info (some x) h l = (meaning_from op info x.0 h, l)

  by_bytes : (op info : ℕ) (o : Option ℕ) (bs : List ℕ) → info < 16 → Bytes bs
      → Operand (after {B = Seh × List ℕ} o (λ n. next (read_little n bs) λ v rest. some (meaning frame op info v, rest)))
  unfolding after
  by_bytes op info none bs h l = omega arith
  by_bytes op info (some n) bs h l = by_little op info (read_little n bs) h (little_left n bs l)

  abbrev pub Code : Read (ℕ × Seh) → Type 0
  Code none = 0 ≤ frame
  Code (some x) = FromHeader frame x.0.1 × Bytes x.1

  by_operand : (at : ℕ) (r : Read Seh) → Operand r → Code (next {B = (ℕ × Seh) × List ℕ} r (λ c rest. some ((at, c), rest)))
  unfolding next
  by_operand at none h = omega arith
  by_operand at (some x) h = h

  pub code_from : (bs : List ℕ) → Bytes bs → Code (read_code frame bs)
  unfolding read_code read_operand
  code_from [] h = omega arith
  code_from (at ∷ []) h = omega arith
  code_from (at ∷ b ∷ bs) h =
      let small : b < 256 = h 1 in
      by_operand at (read_operand frame (b % 16) (b / 16) bs)
      (by_bytes (b % 16) (b / 16) (operand_bytes (b % 16) (b / 16)) bs (omega arith) (λ i. h (suc (suc i))))

  -- ---- all codes

  abbrev All : Option (List (ℕ × Seh)) → Type 0
  All none = 0 ≤ frame
  All (some cs) = Each (λ c. FromHeader frame c.1) cs

  by_code : (r : Read (ℕ × Seh)) (k : ℕ × Seh → List ℕ → Option (List (ℕ × Seh))) → Code r
      → ((c : ℕ × Seh) (rest : List ℕ) → FromHeader frame c.1 → Bytes rest → All (k c rest)) → All (next r k)
  unfolding next
  by_code none k h f = omega arith
  by_code (some x) k h f = f x.0 x.1 h.0 h.1

  codes_from : (fuel : ℕ) (cs : List (ℕ × Seh)) (bs : List ℕ) → Each (λ c. FromHeader frame c.1) cs → Bytes bs → All (read_codes_f fuel frame cs bs)
  unfolding read_codes_f
  codes_from zero cs bs h l = omega arith
  codes_from (suc f) cs [] h l = h
  codes_from (suc f) cs (b ∷ bs) h l =
      by_code (read_code frame (b ∷ bs)) (λ c rest. read_codes_f f frame (c ∷ cs) rest) (code_from (b ∷ bs) l)
      (λ c rest from left. codes_from f (c ∷ cs) rest (from, h) left)

  pub all_from : (bs : List ℕ) (cs : List (ℕ × Seh)) → Bytes bs → read_codes frame bs ≡ some cs → Each (λ c. FromHeader frame c.1) cs
  unfolding read_codes
  all_from bs cs l e = rw e at (codes_from (suc (length bs)) [] bs tt l)
