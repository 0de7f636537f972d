-- The codes of a record, undone in reverse after the full prologue, give the entry's stack pointer back.
use mathlib.Core.Path.{◌≡◌, refl, sym, subst, ◌∙◌}
use Prim.Native.Nat.{ℕ, ◌+◌, ◌-◌}
use native.Mathlib.Omega.{arith}
use mathlib.Core.Bool.{true, false, not}
use mathlib.Core.List.{List, [], ◌∷◌}
use lib.Dec.{T, eqb}
use lib.IntN.{ℤ}
use mir.Facts.{eqb_no, yes_eqb, no_eqb}
use Rattle.format.specs.Prelude.{pick, good}
use Rattle.format.specs.declared.Seh.{Seh}
use Rattle.format.specs.declared.Seh.TheVariants.{Push, Alloc, Frame, Save}
use Rattle.format.specs.X64.{size64}
use Rattle.format.specs.X64Reader.{Info, has_frame, read_x64}
use Rattle.format.proofs.Choice.{pick_yes, pick_no}
use Rattle.x64_back.specs.Given.{frame_of}
use Rattle.x64_back.specs.Undo.{State, rsp, stack_pointer, set_at, loaded, with_register, with_memory, with_vector, does, prologue_from, below, base_in, done, undoes, undo_from, undone, names, Unnamed, KeptBy, FrameKept, FitsCode, AddressesFit}

turned : (a b : ℕ) → T (not (eqb a b)) → T (not (eqb b a))
turned a b t = no_eqb {a = b} {b = a} (λ e. eqb_no {a = a} {b = b} t (sym e))

-- a register that is not set keeps its value
other : (s : State) (k v i : ℕ) → T (not (eqb k i)) → (with_register s k v).registers i ≡ s.registers i
unfolding with_register set_at
other s k v i t = pick_no (eqb k i) v (s.registers i) t

same : (s : State) (v : ℕ) → stack_pointer (with_register s rsp v) ≡ v
unfolding with_register set_at pick
same s v = refl

-- ---- a register that no code names

module _ (base k : ℕ) (low : T (not (eqb rsp k))) where
  does_keeps : (c : Seh) (s : State) → T (not (names c k)) → (does base c s).registers k ≡ s.registers k
  unfolding does names with_memory
  does_keeps (Push reg) s t = other (with_memory s (stack_pointer s - 8) 8 (s.registers reg)) rsp (stack_pointer s - 8) k low
  does_keeps (Alloc z) s t = other s rsp (stack_pointer s - size64 z) k low
  does_keeps (Frame reg z) s t = other s reg (stack_pointer s + size64 z) k t
  does_keeps (Save reg false z) s t = refl
  does_keeps (Save reg true z) s t = refl

  prologue_keeps : (cs : List (ℕ × Seh)) (s : State) → Unnamed k cs → (prologue_from base cs s).registers k ≡ s.registers k
  unfolding prologue_from
  prologue_keeps [] s h = refl
  prologue_keeps (c ∷ cs) s h = prologue_keeps cs (does base c.1 s) h.1 ∙ does_keeps c.1 s h.0

  undoes_keeps : (c : Seh) (s : State) → T (not (names c k)) → (undoes base c s).registers k ≡ s.registers k
  unfolding undoes names with_vector
  undoes_keeps (Push reg) s t =
      let v : ℕ = loaded s.memory (stack_pointer s) 8 in
      other (with_register s reg v) rsp _ k low ∙ other s reg v k t
  undoes_keeps (Alloc z) s t = other s rsp (stack_pointer s + size64 z) k low
  undoes_keeps (Frame reg z) s t = other s rsp (s.registers reg - size64 z) k low
  undoes_keeps (Save reg false z) s t = other s reg (loaded s.memory (base + size64 z) 8) k t
  undoes_keeps (Save reg true z) s t = refl

  undo_keeps : (cs : List (ℕ × Seh)) (s : State) → Unnamed k cs → (undo_from base cs s).registers k ≡ s.registers k
  unfolding undo_from
  undo_keeps [] s h = refl
  undo_keeps (c ∷ cs) s h = undoes_keeps c.1 (undo_from base cs s) h.0 ∙ undo_keeps cs s h.1

-- ---- the stack pointer

pub goes_below : (base : ℕ) (c : Seh) (s : State) → T (not (names c rsp)) → stack_pointer (does base c s) ≡ below (stack_pointer s) c
unfolding does names below with_memory
goes_below base (Push reg) s t = same (with_memory s (stack_pointer s - 8) 8 (s.registers reg)) (stack_pointer s - 8)
goes_below base (Alloc z) s t = same s (stack_pointer s - size64 z)
goes_below base (Frame reg z) s t = other s reg (stack_pointer s + size64 z) rsp t
goes_below base (Save reg false z) s t = refl
goes_below base (Save reg true z) s t = refl

frame_set : (base reg : ℕ) (z : ℤ) (s : State) → (does base (Frame reg z) s).registers reg ≡ stack_pointer s + size64 z
unfolding does with_register set_at
frame_set base reg z s = pick_yes (eqb reg reg) (stack_pointer s + size64 z) (s.registers reg) (yes_eqb {a = reg} {b = reg} refl)

module _ (base base' : ℕ) where
  -- the frame register behind the prologue, and when the codes behind its own are undone
  pub frame_ahead : (reg : ℕ) (z : ℤ) (cs : List (ℕ × Seh)) (s : State) → T (not (eqb reg rsp)) → Unnamed reg cs
      → (prologue_from base cs (does base (Frame reg z) s)).registers reg ≡ stack_pointer s + size64 z
  frame_ahead reg z cs s t k = prologue_keeps base reg (turned reg rsp t) cs (does base (Frame reg z) s) k ∙ frame_set base reg z s

  pub frame_back : (reg : ℕ) (z : ℤ) (cs : List (ℕ × Seh)) (s : State) → T (not (eqb reg rsp)) → Unnamed reg cs
      → (undo_from base' cs (prologue_from base cs (does base (Frame reg z) s))).registers reg ≡ stack_pointer s + size64 z
  frame_back reg z cs s t k =
      undo_keeps base' reg (turned reg rsp t) cs (prologue_from base cs (does base (Frame reg z) s)) k ∙ frame_ahead reg z cs s t k

  -- one code, where undoing those behind it gives the stack pointer behind it
  one_back : (c : Seh) (cs : List (ℕ × Seh)) (s : State) → T (not (names c rsp)) → KeptBy c cs → FitsCode (stack_pointer s) c
      → stack_pointer (undo_from base' cs (prologue_from base cs (does base c s))) ≡ below (stack_pointer s) c
      → stack_pointer (undoes base' c (undo_from base' cs (prologue_from base cs (does base c s)))) ≡ stack_pointer s
  unfolding undoes names below with_vector
  one_back (Push reg) cs s t k f e =
      let u : State = undo_from base' cs (prologue_from base cs (does base (Push reg) s)) in
      same (with_register u reg (loaded u.memory (stack_pointer u) 8)) _ ∙ omega arith
  one_back (Alloc z) cs s t k f e =
      let u : State = undo_from base' cs (prologue_from base cs (does base (Alloc z) s)) in
      same u (stack_pointer u + size64 z) ∙ omega arith
  one_back (Frame reg z) cs s t k f e =
      let u : State = undo_from base' cs (prologue_from base cs (does base (Frame reg z) s)) in
      same u (u.registers reg - size64 z) ∙ omega (arith, frame_back reg z cs s t k)
  one_back (Save reg false z) cs s t k f e =
      let u : State = undo_from base' cs (prologue_from base cs (does base (Save reg false z) s)) in
      other u reg (loaded u.memory (base' + size64 z) 8) rsp t ∙ e
  one_back (Save reg true z) cs s t k f e = e

  pub pointer_back : (cs : List (ℕ × Seh)) (s : State) → Unnamed rsp cs → FrameKept cs → AddressesFit (stack_pointer s) cs
      → stack_pointer (undo_from base' cs (prologue_from base cs s)) ≡ stack_pointer s
  unfolding undo_from prologue_from
  pointer_back [] s n k f = refl
  pointer_back (c ∷ cs) s n k f =
      let e : stack_pointer (does base c.1 s) ≡ below (stack_pointer s) c.1 = goes_below base c.1 s n.0 in
      one_back c.1 cs s n.0 k.0 f.0
      (pointer_back cs (does base c.1 s) n.1 k.1 (subst (λ sp. AddressesFit sp cs) (sym e) f.1) ∙ e)

-- What was read of any bytes, undone in reverse after the full prologue, gives the entry's stack pointer, where
-- no code names the stack pointer, none after a frame code names the frame register, and the addresses fit 64
-- bits.
pub entry_pointer : (bytes : List ℕ) (place room : ℕ) (i : Info) → read_x64 bytes place room ≡ good i
    → (s : State) → Unnamed rsp i.codes → FrameKept i.codes → AddressesFit (stack_pointer s) i.codes
    → stack_pointer (undone i.codes (done i.codes s)) ≡ stack_pointer s
unfolding undone done
entry_pointer bytes place room i e s n k f =
    let d : State = done i.codes s in
    let frame : ℕ × ℕ = frame_of i.codes in
    pointer_back (base_in i.codes (stack_pointer s))
    (pick (has_frame i.codes) (d.registers frame.0 - frame.1) (stack_pointer d)) i.codes s n k f
