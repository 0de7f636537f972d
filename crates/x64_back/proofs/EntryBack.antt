-- Behind the whole prologue, the undo on a thread's registers and bytes answers, and gives the registers that the undoing of Undo.antt does.
use mathlib.Core.Path.{◌≡◌, refl, sym, ap, subst, ◌∙◌}
use Prim.Native.Nat.{ℕ, zero, suc, ◌+◌, ◌-◌, ◌*◌, ◌^◌, ◌≤◌, ◌<◌}
use native.Mathlib.Omega.{arith}
use mathlib.Core.Bool.{Bool, true, false, not, ◌||◌}
use mathlib.Core.Option.{Option, none, some}
use mathlib.Core.List.{List, [], ◌∷◌}
use lib.Dec.{T, eqb, eqb→eq}
use lib.ListN.{length, get_or, set, take, drop, length-set}
use Rattle.std.proofs.lemmas.List.{get_or-take, get_or_past, length-take}
use lib.Seq.{drop-cons, get_or-drop, get_or-set_same, get_or-set_other}
use mir.Facts.{eqb_no}
use Rattle.std.specs.Prelude.{Ok}
use Rattle.std.specs.Prelude as code
use Rattle.format.specs.Prelude.{pick, next, after, good, bad, onward, or_else}
use Rattle.format.specs.Coded.{result_of}
use Rattle.format.specs.Leb.{read_little}
use Rattle.format.specs.Reader.{require}
use Rattle.format.specs.declared.Seh.{Seh}
use Rattle.format.specs.declared.Seh.TheVariants.{Push, Alloc, Frame, Save}
use Rattle.format.specs.X64.{size64}
use Rattle.format.specs.X64Reader.{Info, is_frame, has_frame, frame_register, frame_offset, header_ok, slot_bytes_in, info_with, read_codes, read_info}
use Rattle.format.proofs.Choice.{pick_yes, pick_no, if-le, either, tested, decided, when_true, when_false}
use Rattle.format.proofs.Each.{Each}
use Rattle.walk.specs.Walk.{Memory, load}
use Rattle.x64_back.specs.declared.undo.Registers.{Registers}
use Rattle.x64_back.specs.Given.{or_frame_of, frame_of}
use Rattle.x64_back.specs.Undo.{State, rsp, stack_pointer, set_at, loaded, with_register, with_vector, does, prologue_from, below, base_in, done, undoes, undo_from, undone, names, Unnamed, KeptBy, FrameKept, FitsCode, AddressesFit}
use Rattle.x64_back.specs.Thread.{pointer_in, with_integer, with_halves, sum64, difference, undo_save, undo_code, undo_codes, base_by, undo_info, undo_at, Within, StoresIn, AllStoredIn, Entered, EntryGiven, EntryBack}
use Rattle.x64_back.proofs.EntryPointer.{goes_below, frame_ahead, frame_back, pointer_back}
use Rattle.x64_back.proofs.FromHeader.{FromHeader, Bytes, all_from}

-- ---- words

module _ (f : ℕ → ℕ) (a : ℕ) (bs : List ℕ) (are : (i : ℕ) → i < length bs → get_or bs i 0 ≡ f (a + i)) where
  little_is : (k j : ℕ) → j + k ≤ length bs → read_little k (drop j bs) ≡ some (loaded f (a + j) k, drop (j + k) bs)
  unfolding read_little loaded next
  little_is zero j h = let e : j + 0 ≡ j = omega arith in rw e
  little_is (suc k) j h =
      let e : j + suc k ≡ suc j + k = omega arith in
      let d : suc (a + j) ≡ a + suc j = omega arith in
      rw (drop-cons bs j 0 (omega arith), little_is k (suc j) (omega arith), are j (omega arith), e, d)

-- the bytes of the memory are those of a state
abbrev Linked : Memory → (ℕ → ℕ) → Type 0
Linked m f = (i : ℕ) → i < length m.bytes → get_or m.bytes i 0 ≡ f (m.address + i)

load_is : (m : Memory) (f : ℕ → ℕ) → Linked m f → (at : ℕ) → Within m at 8 → load m at ≡ some (loaded f at 8)
unfolding load require next
load_is m f are at h =
    let e : m.address + (at - m.address) ≡ at = omega (arith, h.0) in
    let r = little_is f m.address m.bytes are 8 (at - m.address) (omega (arith, h.0, h.1)) in
    if-le m.address at _ none h.0 ∙ rw (r, e)

sum_is : (a b : ℕ) → a + b < 2 ^ 64 → sum64 a b ≡ some (a + b)
unfolding sum64
sum_is a b h = if-le (suc (a + b)) (2 ^ 64) (some (a + b)) none h

difference_is : (a b : ℕ) → b ≤ a → difference a b ≡ some (a - b)
unfolding difference
difference_is a b h = if-le b a (some (a - b)) none h

-- ---- registers

pub record Same (r : Registers) (u : State) : Type 0 where
  pub many : length r.integers ≡ 16
  pub are : (k : ℕ) → k < 16 → get_or r.integers k 0 ≡ u.registers k

module _ {r : Registers} {u : State} (s : Same r u) where
  same_with : (reg v : ℕ) → reg < 16 → Same (with_integer r reg v) (with_register u reg v)
  unfolding with_integer with_register set_at
  same_with reg v h = record {
    many = length-set r.integers reg v ∙ s.many;
    are = λ k l. tested (eqb reg k)
        (λ t. let e : reg ≡ k = eqb→eq reg k t in
        sym (pick_yes (eqb reg k) v (u.registers k) t ∙ sym (ap (λ i. get_or (set r.integers reg v) i 0) (sym e) ∙ get_or-set_same r.integers reg v 0 (omega (arith, s.many)))))
        (λ t. get_or-set_other r.integers reg k v 0 (λ e. eqb_no {a = reg} {b = k} t (sym e)) ∙ (s.are k l ∙ sym (pick_no (eqb reg k) v (u.registers k) t)));
  }

-- what was undone, and the state that it stands for
record Undone (o : Option Registers) (u : State) : Type 0 where
  before : Registers
  is : o ≡ some before
  same : Same before u

-- ---- one code that can be undone

abbrev Ready : Memory → (base : ℕ) → State → Seh → Type 0
Ready m base u (Push reg) = Within m (stack_pointer u) 8 × (stack_pointer u + 8 < 2 ^ 64)
Ready m base u (Alloc z) = stack_pointer u + size64 z < 2 ^ 64
Ready m base u (Frame reg z) = size64 z ≤ u.registers reg
Ready m base u (Save reg false z) = Within m (base + size64 z) 8 × (base + size64 z < 2 ^ 64)
Ready m base u (Save reg true z) = Within m (base + size64 z) 16 × (base + size64 z + 8 < 2 ^ 64)

module _ (m : Memory) (base frame : ℕ) (r : Registers) (u : State) (s : Same r u) (are : Linked m u.memory) where
  pointer_is : pointer_in r ≡ stack_pointer u
  pointer_is = s.are 4 (omega arith)

  code_undone : (c : Seh) → FromHeader frame c → Ready m base u c → Undone (undo_code m base c r) (undoes base c u)
  unfolding undo_code undo_save undoes after with_halves with_vector
  code_undone (Push reg) h k =
      let sp : ℕ = stack_pointer u in
      let v : ℕ = loaded u.memory sp 8 in
      record {
        before = with_integer (with_integer r reg v) rsp (sp + 8);
        is = rw (pointer_is, load_is m u.memory are sp k.0, sum_is sp 8 k.1);
        same = same_with (same_with s reg v h) rsp (sp + 8) (omega arith);
      }
  code_undone (Alloc z) h k =
      let sp : ℕ = stack_pointer u in
      record {
        before = with_integer r rsp (sp + size64 z);
        is = rw (pointer_is, sum_is sp (size64 z) k);
        same = same_with s rsp (sp + size64 z) (omega arith);
      }
  code_undone (Frame reg z) h k =
      record {
        before = with_integer r rsp (u.registers reg - size64 z);
        is = rw (s.are reg (omega (arith, h.0)), difference_is (u.registers reg) (size64 z) k);
        same = same_with s rsp (u.registers reg - size64 z) (omega arith);
      }
  code_undone (Save reg false z) h k =
      let at : ℕ = base + size64 z in
      record {
        before = with_integer r reg (loaded u.memory at 8);
        is = rw (sum_is base (size64 z) k.1, load_is m u.memory are at k.0);
        same = same_with s reg (loaded u.memory at 8) h;
      }
  code_undone (Save reg true z) h k =
      let at : ℕ = base + size64 z in
      record {
        before = with_halves r reg (loaded u.memory at 8) (loaded u.memory (at + 8) 8);
        is =
            rw (
              sum_is base (size64 z) (omega (arith, k.1)),
              load_is m u.memory are at (omega (arith, k.0.0), omega (arith, k.0.1)),
              sum_is at 8 k.1,
              load_is m u.memory are (at + 8) (omega (arith, k.0.0), omega (arith, k.0.1)),
            );
        same = record { many = s.many; are = s.are };
      }

-- ---- all codes

undoes_memory : (base : ℕ) (c : Seh) (s : State) → (undoes base c s).memory ≡ s.memory
unfolding undoes with_register with_vector
undoes_memory base (Push reg) s = refl
undoes_memory base (Alloc z) s = refl
undoes_memory base (Frame reg z) s = refl
undoes_memory base (Save reg false z) s = refl
undoes_memory base (Save reg true z) s = refl

undo_memory : (base : ℕ) (cs : List (ℕ × Seh)) (s : State) → (undo_from base cs s).memory ≡ s.memory
unfolding undo_from
undo_memory base [] s = refl
undo_memory base (c ∷ cs) s = undoes_memory base c.1 (undo_from base cs s) ∙ undo_memory base cs s

not_above : (sp : ℕ) (c : Seh) → below sp c ≤ sp
unfolding below
not_above sp (Push reg) = omega arith
not_above sp (Alloc z) = omega arith
not_above sp (Frame reg z) = omega arith
not_above sp (Save reg vector z) = omega arith

module _ (m : Memory) (base frame : ℕ) (low : m.address + length m.bytes ≤ 2 ^ 64) where
  -- a code can be undone where those behind it are
  ready : (c : Seh) (cs : List (ℕ × Seh)) (s : State) → T (not (names c rsp)) → KeptBy c cs → FitsCode (stack_pointer s) c → stack_pointer s < 2 ^ 64
      → StoresIn m base (stack_pointer s) c
      → stack_pointer (undo_from base cs (prologue_from base cs (does base c s))) ≡ below (stack_pointer s) c
      → Ready m base (undo_from base cs (prologue_from base cs (does base c s))) c
  unfolding names below
  ready (Push reg) cs s t k f l h e = ((omega (arith, h.0), omega (arith, h.1)), omega arith)
  ready (Alloc z) cs s t k f l h e = omega arith
  ready (Frame reg z) cs s t k f l h e = omega (arith, frame_back base base reg z cs s t k)
  ready (Save reg false z) cs s t k f l h e = (h, omega (arith, h.1))
  ready (Save reg true z) cs s t k f l h e = (h, omega (arith, h.1))

  all_undone : (cs : List (ℕ × Seh)) (s : State) (r : Registers) → Each (λ c. FromHeader frame c.1) cs → Unnamed rsp cs → FrameKept cs
      → AddressesFit (stack_pointer s) cs → stack_pointer s < 2 ^ 64 → AllStoredIn m base (stack_pointer s) cs
      → Same r (prologue_from base cs s) → Linked m (prologue_from base cs s).memory
      → Undone (undo_codes m base cs r) (undo_from base cs (prologue_from base cs s))
  unfolding undo_codes undo_from prologue_from after
  all_undone [] s r from n k f l h same are = record { before = r; is = refl; same = same }
  all_undone (c ∷ cs) s r from n k f l h same are =
      let d : State = does base c.1 s in
      let sp : ℕ = stack_pointer s in
      let e : stack_pointer d ≡ below sp c.1 = goes_below base c.1 s n.0 in
      let fits : AddressesFit (stack_pointer d) cs = subst (λ i. AddressesFit i cs) (sym e) f.1 in
      let holds : AllStoredIn m base (stack_pointer d) cs = subst (λ i. AllStoredIn m base i cs) (sym e) h.1 in
      let small : stack_pointer d < 2 ^ 64 = omega (arith, not_above sp c.1) in
      let u : State = undo_from base cs (prologue_from base cs d) in
      let o = all_undone cs d r from.1 n.1 k.1 fits small holds same are in
      let memory : Linked m u.memory = rw (undo_memory base cs (prologue_from base cs d)) are in
      let one = code_undone m base frame o.before u o.same memory c.1 from.0 (ready c.1 cs s n.0 k.0 f.0 l h.0 (pointer_back base base cs d n.1 k.1 fits ∙ e)) in
      record { before = one.before; is = rw o.is one.is; same = one.same }

-- ---- where saves count from

module _ (base : ℕ) where
  one_frameless : (c : Seh) (cs : List (ℕ × Seh)) (s : State) → (is_frame c || has_frame cs) ≡ false → T (not (names c rsp))
      → ((u : State) → has_frame cs ≡ false → stack_pointer (prologue_from base cs u) ≡ base_in cs (stack_pointer u))
      → stack_pointer (prologue_from base cs (does base c s)) ≡ pick (is_frame c) (stack_pointer s) (base_in cs (below (stack_pointer s) c))
  unfolding is_frame pick
  one_frameless (Push reg) cs s e t k = k (does base (Push reg) s) e ∙ ap (base_in cs) (goes_below base (Push reg) s t)
  one_frameless (Alloc z) cs s e t k = k (does base (Alloc z) s) e ∙ ap (base_in cs) (goes_below base (Alloc z) s t)
  one_frameless (Frame reg z) cs s e t k = cc
  one_frameless (Save reg vector z) cs s e t k =
      k (does base (Save reg vector z) s) e ∙ ap (base_in cs) (goes_below base (Save reg vector z) s t)

  frameless : (cs : List (ℕ × Seh)) (s : State) → has_frame cs ≡ false → Unnamed rsp cs
      → stack_pointer (prologue_from base cs s) ≡ base_in cs (stack_pointer s)
  unfolding prologue_from base_in has_frame
  frameless [] s e n = refl
  frameless (c ∷ cs) s e n = one_frameless c.1 cs s e n.0 (λ u f. frameless cs u f n.1)

  module _ (frame : ℕ) where
    one_framed : (c : Seh) (cs : List (ℕ × Seh)) (s : State) → (is_frame c || has_frame cs) ≡ true → FromHeader frame c → T (not (names c rsp)) → KeptBy c cs
        → ((u : State) → has_frame cs ≡ true
        → (prologue_from base cs u).registers (frame_register frame) ≡ base_in cs (stack_pointer u) + frame_offset frame)
        → (prologue_from base cs (does base c s)).registers (frame_register frame)
        ≡ pick (is_frame c) (stack_pointer s) (base_in cs (below (stack_pointer s) c)) + frame_offset frame
    unfolding is_frame pick names
    one_framed (Push reg) cs s e h t k f =
        f (does base (Push reg) s) e ∙ ap (λ (sp : ℕ). base_in cs sp + frame_offset frame) (goes_below base (Push reg) s t)
    one_framed (Alloc z) cs s e h t k f =
        f (does base (Alloc z) s) e ∙ ap (λ (sp : ℕ). base_in cs sp + frame_offset frame) (goes_below base (Alloc z) s t)
    one_framed (Frame reg z) cs s e h t k f =
        ap (prologue_from base cs (does base (Frame reg z) s)).registers (sym h.0) ∙ frame_ahead base base reg z cs s t k
        ∙ ap (λ (n : ℕ). stack_pointer s + n) h.1
    one_framed (Save reg vector z) cs s e h t k f =
        f (does base (Save reg vector z) s) e ∙ ap (λ (sp : ℕ). base_in cs sp + frame_offset frame) (goes_below base (Save reg vector z) s t)

    framed : (cs : List (ℕ × Seh)) (s : State) → has_frame cs ≡ true → Each (λ c. FromHeader frame c.1) cs → Unnamed rsp cs → FrameKept cs
        → (prologue_from base cs s).registers (frame_register frame) ≡ base_in cs (stack_pointer s) + frame_offset frame
    unfolding prologue_from base_in has_frame
    framed [] s e h n k = cc
    framed (c ∷ cs) s e h n k = one_framed c.1 cs s e h.0 n.0 k.0 (λ u f. framed cs u f h.1 n.1 k.1)

-- the first frame code has the header's register and offset
one_frame_of : (frame : ℕ) (c : Seh) (cs : List (ℕ × Seh)) → (is_frame c || has_frame cs) ≡ true → FromHeader frame c
    → (has_frame cs ≡ true → frame_of cs ≡ (frame_register frame, frame_offset frame)) → or_frame_of c (frame_of cs) ≡ (frame_register frame, frame_offset frame)
unfolding is_frame or_frame_of
one_frame_of frame (Push reg) cs e h k = k e
one_frame_of frame (Alloc z) cs e h k = k e
one_frame_of frame (Frame reg z) cs e h k = rw (h.0, h.1)
one_frame_of frame (Save reg vector z) cs e h k = k e

frame_of_is : (frame : ℕ) (cs : List (ℕ × Seh)) → has_frame cs ≡ true → Each (λ c. FromHeader frame c.1) cs
    → frame_of cs ≡ (frame_register frame, frame_offset frame)
unfolding has_frame frame_of
frame_of_is frame [] e h = cc
frame_of_is frame (c ∷ cs) e h = one_frame_of frame c.1 cs e h.0 (λ f. frame_of_is frame cs f h.1)

-- ---- a record

module _ (frame : ℕ) (cs : List (ℕ × Seh)) (from : Each (λ c. FromHeader frame c.1) cs) (s : State) (m : Memory) (r : Registers) (h : Entered cs s m r)
    (same : Same r (done cs s)) where
  base : ℕ
  base = base_in cs (stack_pointer s)

  counted_from : pick (has_frame cs) ((done cs s).registers (frame_of cs).0 - (frame_of cs).1) (stack_pointer (done cs s)) ≡ base
  unfolding base done
  counted_from =
      decided (has_frame cs)
      (λ e.
      let there = framed base frame cs s e from h.pointer_unnamed h.frame_kept in
      when_true (has_frame cs) _ _ e ∙ rw (frame_of_is frame cs e from) (omega (arith, there)))
      (λ e. when_false (has_frame cs) _ _ e ∙ frameless base cs s e h.pointer_unnamed)

  base_is : base_by (has_frame cs) (frame_register frame) (frame_offset frame) r ≡ some base
  unfolding base_by base done
  base_is =
      decided (has_frame cs)
      (λ e.
      let there = same.are (frame_register frame) (omega arith) ∙ framed base frame cs s e from h.pointer_unnamed h.frame_kept in
      let gone : base + frame_offset frame - frame_offset frame ≡ base = omega arith in
      when_true (has_frame cs) _ _ e ∙ rw there (difference_is (base + frame_offset frame) (frame_offset frame) (omega arith) ∙ ap some gone))
      (λ e. when_false (has_frame cs) _ _ e ∙ ap some (same.are 4 (omega arith) ∙ frameless base cs s e h.pointer_unnamed))

  prologue_undone : Undone (undo_codes m base cs r) (undo_from base cs (done cs s))
  unfolding base done
  prologue_undone =
      all_undone m base frame h.memory_fits cs s r from h.pointer_unnamed h.frame_kept h.addresses_fit h.pointer_fits h.holds_stores same h.bytes

  given : {answer : code.Result Registers ℕ} → answer ≡ result_of (or_else (after (base_by (has_frame cs) (frame_register frame) (frame_offset frame) r) λ b. undo_codes m b cs r) 74)
      → EntryGiven cs s answer
  unfolding after or_else base done undone
  given e =
      let u = prologue_undone in
      record {
        registers_after = u.before;
        answers = e ∙ rw (base_is, u.is);
        pointer = u.same.are 4 (omega arith) ∙ pointer_back base base cs s h.pointer_unnamed h.frame_kept h.addresses_fit;
        integers = λ k l. rw counted_from (u.same.are k l);
      }

-- what a record that was read says
record Said (bs : List ℕ) (i : Info) : Type 0 where
  codes : read_codes (get_or bs 3 0) (slot_bytes_in bs) ≡ some i.codes
  register : i.register ≡ frame_register (get_or bs 3 0)
  offset : i.offset ≡ frame_offset (get_or bs 3 0)

said_by : (b : Bool) (o : Option (List (ℕ × Seh))) (bs : List ℕ) (i : Info)
    → pick b (onward (or_else o 77) λ cs. good (info_with bs cs)) (bad 76) ≡ good i → (o ≡ some i.codes) × (i ≡ info_with bs i.codes)
unfolding pick onward or_else info_with
said_by true none bs i e = cc
said_by true (some cs) bs i e = let same : info_with bs cs ≡ i = cc in (rw (← same), rw (← same))
said_by false o bs i e = cc

said : (bs : List ℕ) (i : Info) → read_info bs ≡ good i → Said bs i
unfolding read_info info_with
said bs i e =
    let x = said_by (header_ok bs) (read_codes (get_or bs 3 0) (slot_bytes_in bs)) bs i e in
    record { codes = x.0; register = ap (λ (j : Info). j.register) x.1; offset = ap (λ (j : Info). j.offset) x.1 }

slots_bytes : (bs : List ℕ) → Bytes bs → Bytes (slot_bytes_in bs)
unfolding slot_bytes_in
slots_bytes bs h i =
    let n : ℕ = 2 * get_or bs 2 0 in
    let xs : List ℕ = drop 4 bs in
    either (suc i) n (λ l. rw (get_or-take n xs i 0 l, get_or-drop 4 bs i 0) (h (4 + i)))
    (λ l. let z = get_or_past (take n xs) i 0 (omega (arith, length-take n xs)) in omega arith)

pub entry_back : (info : List ℕ) (place : ℕ) (m : Memory) (r : Registers) → Bytes info → {answer : code.Result Registers ℕ}
    → answer ≡ result_of (undo_at info place m r) → EntryBack info place m r answer
unfolding undo_at undo_info onward
entry_back info place m r bytes e i read s h =
    let bs : List ℕ = drop place info in
    let x = said bs i read in
    let inside : Bytes bs = λ j. rw (get_or-drop place info j 0) (bytes (place + j)) in
    let from = all_from (get_or bs 3 0) (slot_bytes_in bs) i.codes (slots_bytes bs inside) x.codes in
    given (get_or bs 3 0) i.codes from s m r h (record { many = h.many; are = h.integers }) (e ∙ rw (read, x.register, x.offset))
