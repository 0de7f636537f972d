-- One code's bytes read as the code.
use mathlib.Core.Path.{◌≡◌, ap, ◌∙◌}
use Prim.Native.Nat.{ℕ, suc, ◌+◌, ◌-◌, ◌*◌, ◌/◌, ◌%◌, ◌^◌, ◌≤◌, ◌<◌}
use native.Mathlib.Omega.{arith}
use native.Mathlib.Nat.{div-add-mod', mul_comm}
use mathlib.Core.Bool.{Bool, true, false, ◌&&◌}
use mathlib.Core.Option.{some}
use mathlib.Core.List.{List, ◌∷◌, ◌++◌}
use lib.Dec.{ltb, eqb, ltb→lt, eqb→eq}
use lib.IntN.{ℤ, pos, negsuc}
use mir.Facts.{and_yes}
use Rattle.format.specs.Prelude.{pick, next, after}
use Rattle.format.specs.Leb.{little, read_little}
use Rattle.format.specs.declared.Seh.{Seh}
use Rattle.format.specs.declared.Seh.TheVariants.{Push, Alloc, Frame, Save}
use Rattle.format.specs.X64.{node, alloc_bytes, slot_bytes, save_bytes, size64, code_bytes}
use Rattle.format.specs.X64Reader.{operand_bytes, large_size, meaning, read_operand, read_code}
use Rattle.format.proofs.Choice.{if-le, if-gt, either, tested, pick_yes, pick_no}
use Rattle.format.proofs.LebBack.{little_back}

-- what the questions say of a code, and what its record's frame byte is
abbrev pub AllocFits : ℤ → Type 0
AllocFits (pos n) = (0 < n) × (n % 8 ≡ 0) × (n < 2 ^ 32)
AllocFits (negsuc n) = ⊥

abbrev pub FrameFits : (frame reg : ℕ) → ℤ → Type 0
FrameFits frame reg (pos n) = (reg < 16) × (n % 16 ≡ 0) × (frame ≡ reg + 16 * (n / 16))
FrameFits frame reg (negsuc n) = ⊥

abbrev pub SaveFits : ℤ → Type 0
SaveFits (pos n) = n < 2 ^ 32
SaveFits (negsuc n) = ⊥

abbrev pub CodeFits : (frame : ℕ) → Seh → Type 0
CodeFits frame (Push reg) = 0 ≤ reg
CodeFits frame (Alloc z) = AllocFits z
CodeFits frame (Frame reg z) = FrameFits frame reg z
CodeFits frame (Save reg vector z) = SaveFits z

-- the two bytes of a code, whatever stands behind them
node_back : (frame at op info : ℕ) (bs : List ℕ) → op < 16
    → read_code frame (at ∷ (op + 16 * info) ∷ bs) ≡ next (read_operand frame op info bs) (λ c rest. some ((at, c), rest))
unfolding read_code
node_back frame at op info bs h =
    let a : (op + 16 * info) % 16 ≡ op = omega arith in
    let b : (op + 16 * info) / 16 ≡ info = omega arith in
    rw (a, b)

module _ (frame at : ℕ) (rest : List ℕ) where
  alloc_back : (n : ℕ) → AllocFits (pos n) → read_code frame (alloc_bytes at n ++ rest) ≡ some ((at, Alloc (pos n)), rest)
  unfolding alloc_bytes node read_operand operand_bytes meaning large_size after next pick read_little
  alloc_back n h =
      either n 128
      (λ l.
      let e : 8 * (n / 8 - 1) + 8 ≡ n = omega (arith, h.0, h.1) in
      rw (if-le n 128, node_back frame at 2 (n / 8 - 1) rest (omega arith)) (ap (λ k. some ((at, Alloc (pos k)), rest)) e))
      (λ g.
      either (suc (n / 8)) 65536
      (λ l.
      let e : 8 * (n / 8) ≡ n = omega (arith, h.1) in
      rw (if-gt n 128, if-le (suc (n / 8)) 65536, node_back frame at 1 0 (little 2 (n / 8) ++ rest) (omega arith), little_back 2 (n / 8) rest (omega arith))
      (ap (λ k. some ((at, Alloc (pos k)), rest)) e))
      (λ k.
      rw (if-gt n 128, if-gt (suc (n / 8)) 65536, node_back frame at 1 1 (little 4 n ++ rest) (omega arith), little_back 4 n rest (omega (arith, h.2)))))

  -- a save, near in units of its size or far in bytes, by what is read of both
  slot_back : (vector : Bool) (near unit reg n : ℕ)
      → ((m : ℕ) → m < 65536 → read_code frame ((node at near reg ++ little 2 m) ++ rest) ≡ some ((at, Save reg vector (pos (unit * m))), rest))
      → read_code frame ((node at (suc near) reg ++ little 4 n) ++ rest) ≡ some ((at, Save reg vector (pos n)), rest)
      → read_code frame (slot_bytes near unit at reg n ++ rest) ≡ some ((at, Save reg vector (pos n)), rest)
  unfolding slot_bytes
  slot_back vector near unit reg n f g =
      tested (eqb (n % unit) 0 && ltb (n / unit) 65536)
      (λ t.
      let w = and_yes (eqb (n % unit) 0) (ltb (n / unit) 65536) t in
      let e : unit * (n / unit) ≡ n = omega (arith, div-add-mod' n unit, mul_comm unit (n / unit), eqb→eq (n % unit) 0 w.0) in
      rw (pick_yes (eqb (n % unit) 0 && ltb (n / unit) 65536) (node at near reg ++ little 2 (n / unit)) (node at (suc near) reg ++ little 4 n) t)
      (f (n / unit) (ltb→lt (n / unit) 65536 w.1) ∙ ap (λ k. some ((at, Save reg vector (pos k)), rest)) e))
      (λ t. rw (pick_no (eqb (n % unit) 0 && ltb (n / unit) 65536) (node at near reg ++ little 2 (n / unit)) (node at (suc near) reg ++ little 4 n) t) g)

  save_back : (vector : Bool) (reg n : ℕ) → n < 2 ^ 32
      → read_code frame (save_bytes vector at reg n ++ rest) ≡ some ((at, Save reg vector (pos n)), rest)
  unfolding save_bytes node read_operand operand_bytes meaning after next pick read_little
  save_back false reg n h =
      slot_back false 4 8 reg n
      (λ m l. rw (node_back frame at 4 reg (little 2 m ++ rest) (omega arith), little_back 2 m rest (omega (arith, l))))
      (rw (node_back frame at 5 reg (little 4 n ++ rest) (omega arith), little_back 4 n rest (omega (arith, h))))
  save_back true reg n h =
      slot_back true 8 16 reg n
      (λ m l. rw (node_back frame at 8 reg (little 2 m ++ rest) (omega arith), little_back 2 m rest (omega (arith, l))))
      (rw (node_back frame at 9 reg (little 4 n ++ rest) (omega arith), little_back 4 n rest (omega (arith, h))))

  alloc_of : (z : ℤ) → AllocFits z → read_code frame (alloc_bytes at (size64 z) ++ rest) ≡ some ((at, Alloc z), rest)
  unfolding size64
  alloc_of (pos n) h = alloc_back n h
  alloc_of (negsuc n) h = absurd h

  save_of : (vector : Bool) (reg : ℕ) (z : ℤ) → SaveFits z
      → read_code frame (save_bytes vector at reg (size64 z) ++ rest) ≡ some ((at, Save reg vector z), rest)
  unfolding size64
  save_of vector reg (pos n) h = save_back vector reg n h
  save_of vector reg (negsuc n) h = absurd h

  push_back : (reg : ℕ) → read_code frame (node at 0 reg ++ rest) ≡ some ((at, Push reg), rest)
  unfolding node read_operand operand_bytes meaning after next pick read_little
  push_back reg = node_back frame at 0 reg rest (omega arith)

  frame_back : (reg : ℕ) (z : ℤ) → FrameFits frame reg z → read_code frame (node at 3 0 ++ rest) ≡ some ((at, Frame reg z), rest)
  unfolding node read_operand operand_bytes meaning after next pick read_little
  frame_back reg (pos n) h =
      let a : frame % 16 ≡ reg = omega (arith, h.0, h.2) in
      let b : 16 * (frame / 16) ≡ n = omega (arith, h.0, h.1, h.2) in
      node_back frame at 3 0 rest (omega arith) ∙ rw (a, b)
  frame_back reg (negsuc n) h = absurd h

  pub code_back : (c : Seh) → CodeFits frame c → read_code frame (code_bytes at c ++ rest) ≡ some ((at, c), rest)
  unfolding code_bytes
  code_back (Push reg) h = push_back reg
  code_back (Alloc z) h = alloc_of z h
  code_back (Frame reg z) h = frame_back reg z h
  code_back (Save reg vector z) h = save_of vector reg z h
