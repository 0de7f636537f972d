-- The codes of a record undone on a stopped thread: its registers as lists of numbers, and the bytes of its stack from an address on. Nothing is
-- answered where a word is not the stack's, or a sum of addresses has more than 64 bits; else the rules are those of Undo.antt.
use Rattle.std.specs.Prelude.{◌≡◌, ℕ, ◌+◌, ◌-◌, ◌*◌, ◌^◌, ◌≤◌, ◌<◌, Bool, true, false, List, [], ◌∷◌, length, get_or, set, drop, leb, ltb, Ok}
use Rattle.std.specs.Prelude as code
use Rattle.std.proofs.Math.Option.{Option, none, some}
use Rattle.format.specs.Prelude.{pick, after, Result, good, onward, or_else}
use Rattle.format.specs.declared.Seh.{Seh}
use Rattle.format.specs.declared.Seh.TheVariants.{Push, Alloc, Frame, Save}
use Rattle.format.specs.X64.{size64}
use Rattle.format.specs.X64Reader.{Info, has_frame, frame_register, frame_offset, read_codes, read_info}
use Rattle.walk.specs.Walk.{Memory, load}
use Rattle.x64_back.specs.declared.undo.Registers.{Registers}
use Rattle.x64_back.specs.Undo.{State, rsp, stack_pointer, base_in, below, done, undone, Unnamed, FrameKept, AddressesFit}

-- ---- registers: 16 integers, and 16 vectors of two halves each, the lower first

abbrev pub registers : ℕ
registers = 16

abbrev pub pointer_in : Registers → ℕ
pointer_in r = get_or r.integers rsp 0

unfoldable pub with_integer : Registers → (k v : ℕ) → Registers
with_integer r k v = record { integers = set r.integers k v; vectors = r.vectors }

unfoldable pub with_halves : Registers → (k low high : ℕ) → Registers
with_halves r k low high = record { integers = r.integers; vectors = set (set r.vectors (2 * k) low) (2 * k + 1) high }

-- ---- one code (Microsoft, "Unwind operation code"); a save counts from `base`

-- a sum of addresses that 64 bits hold, and a difference that is not below 0
unfoldable pub sum64 : (a b : ℕ) → Option ℕ
sum64 a b = pick (ltb (a + b) (2 ^ 64)) (some (a + b)) none

unfoldable pub difference : (a b : ℕ) → Option ℕ
difference a b = pick (leb b a) (some (a - b)) none

unfoldable pub undo_save : Memory → (reg : ℕ) (vector : Bool) → Registers → (at : ℕ) → Option Registers
undo_save m reg false r at = after (load m at) λ v. some (with_integer r reg v)
undo_save m reg true r at =
    after (load m at) λ low. after (sum64 at 8) λ above. after (load m above) λ high. some (with_halves r reg low high)

unfoldable pub undo_code : Memory → (base : ℕ) → Seh → Registers → Option Registers
undo_code m base (Push reg) r =
    after (load m (pointer_in r)) λ v. after (sum64 (pointer_in r) 8) λ sp. some (with_integer (with_integer r reg v) rsp sp)
undo_code m base (Alloc z) r = after (sum64 (pointer_in r) (size64 z)) λ sp. some (with_integer r rsp sp)
undo_code m base (Frame reg z) r = after (difference (get_or r.integers reg 0) (size64 z)) λ sp. some (with_integer r rsp sp)
undo_code m base (Save reg vector z) r = after (sum64 base (size64 z)) (undo_save m reg vector r)

-- ---- a record (Microsoft, "Unwind procedure")

-- the last code first
unfoldable pub undo_codes : Memory → (base : ℕ) → List (ℕ × Seh) → Registers → Option Registers
undo_codes m base [] r = some r
undo_codes m base (c ∷ cs) r = after (undo_codes m base cs r) (undo_code m base c.1)

-- saves count from the frame register less its offset, without a frame code from the stack pointer
unfoldable pub base_by : (framed : Bool) → (reg offset : ℕ) → Registers → Option ℕ
base_by framed reg offset r = pick framed (difference (get_or r.integers reg 0) offset) (some (pointer_in r))

-- by a record's slots, its frame byte, and whether a code sets the frame register
unfoldable pub undo_slots : Memory → (framed : Bool) → (frame : ℕ) → List ℕ → Registers → Option Registers
undo_slots m framed frame slots r =
    after (base_by framed (frame_register frame) (frame_offset frame) r) λ base. after (read_codes frame slots) λ cs. undo_codes m base cs r

unfoldable pub undo_info : Memory → Info → Registers → Option Registers
undo_info m i r = after (base_by (has_frame i.codes) i.register i.offset r) λ base. undo_codes m base i.codes r

-- the record at a place undone: 76 and 77 of the reader, then 74
unfoldable pub undo_at : (info : List ℕ) → (place : ℕ) → Memory → Registers → Result Registers
undo_at info place m r = onward (read_info (drop place info)) λ i. or_else (undo_info m i r) 74

-- ---- after the full prologue

-- n bytes from an address on are the stack's
abbrev pub Within : Memory → (at n : ℕ) → Type 0
Within m at n = (m.address ≤ at) × (at + n ≤ m.address + length m.bytes)

-- the stack holds what a code stores, and what a whole prologue does
abbrev pub StoresIn : Memory → (base sp : ℕ) → Seh → Type 0
StoresIn m base sp (Push reg) = Within m (sp - 8) 8
StoresIn m base sp (Alloc z) = 0 ≤ sp
StoresIn m base sp (Frame reg z) = 0 ≤ sp
StoresIn m base sp (Save reg false z) = Within m (base + size64 z) 8
StoresIn m base sp (Save reg true z) = Within m (base + size64 z) 16

abbrev pub AllStoredIn : Memory → (base sp : ℕ) → List (ℕ × Seh) → Type 0
AllStoredIn m base sp [] = 0 ≤ sp
AllStoredIn m base sp (c ∷ cs) = StoresIn m base sp c.1 × AllStoredIn m base (below sp c.1) cs

-- The thread stands behind the whole prologue, which it entered in the state s: no code names the stack pointer, none after a frame code
-- names its register, the addresses fit 64 bits, the stack holds every word that was stored, and its integer registers and its bytes are
-- those that the prologue leaves.
pub record Entered (cs : List (ℕ × Seh)) (s : State) (m : Memory) (r : Registers) : Type 0 where
  pub pointer_unnamed : Unnamed rsp cs
  pub frame_kept : FrameKept cs
  pub addresses_fit : AddressesFit (stack_pointer s) cs
  pub pointer_fits : stack_pointer s < 2 ^ 64
  pub memory_fits : m.address + length m.bytes ≤ 2 ^ 64
  pub holds_stores : AllStoredIn m (base_in cs (stack_pointer s)) (stack_pointer s) cs
  pub many : length r.integers ≡ registers
  pub integers : (k : ℕ) → k < registers → get_or r.integers k 0 ≡ (done cs s).registers k
  pub bytes : (i : ℕ) → i < length m.bytes → get_or m.bytes i 0 ≡ (done cs s).memory (m.address + i)

-- what is answered then: the stack pointer of the entry, and every integer register as the undoing leaves it
pub record EntryGiven (cs : List (ℕ × Seh)) (s : State) (answer : code.Result Registers ℕ) : Type 0 where
  pub registers_after : Registers
  pub answers : answer ≡ Ok registers_after
  pub pointer : pointer_in registers_after ≡ stack_pointer s
  pub integers : (k : ℕ) → k < registers → get_or registers_after.integers k 0 ≡ (undone cs (done cs s)).registers k

-- of whatever record was read
abbrev pub EntryBack : (info : List ℕ) → (place : ℕ) → Memory → Registers → code.Result Registers ℕ → Type 0
EntryBack info place m r answer =
    (i : Info) → read_info (drop place info) ≡ good i → (s : State) → Entered i.codes s m r → EntryGiven i.codes s answer
