-- What the instructions of a prologue do, and what undoing their codes does (Microsoft, "Unwind procedure" and "Unwind operation code"), on
-- 16 integer registers, 16 vector registers and a memory of bytes. Where the addresses fit 64 bits no sum here wraps.
use Rattle.std.specs.Prelude.{ℕ, zero, suc, ◌+◌, ◌-◌, ◌*◌, ◌/◌, ◌%◌, ◌^◌, ◌≤◌, ◌<◌, Bool, true, false, not, ◌&&◌, List, [], ◌∷◌, T, leb, ltb, eqb}
use Rattle.format.specs.Prelude.{pick}
use Rattle.format.specs.declared.Seh.{Seh}
use Rattle.format.specs.declared.Seh.TheVariants.{Push, Alloc, Frame, Save}
use Rattle.format.specs.X64.{size64}
use Rattle.format.specs.X64Reader.{is_frame, has_frame}
use Rattle.x64_back.specs.Given.{frame_of}

-- ---- a machine's state

pub record State : Type 0 where
  pub registers : ℕ → ℕ
  pub vectors : ℕ → ℕ
  pub memory : ℕ → ℕ

-- the stack pointer's number
abbrev pub rsp : ℕ
rsp = 4

abbrev pub stack_pointer : State → ℕ
stack_pointer s = s.registers rsp

-- a file of registers where one holds v
unfoldable pub set_at : (ℕ → ℕ) → (k v : ℕ) → ℕ → ℕ
set_at f k v i = pick (eqb k i) v (f i)

-- a memory where n bytes from `at` on hold v, the lowest first; and the number that they hold
unfoldable pub stored : (ℕ → ℕ) → (at n v : ℕ) → ℕ → ℕ
stored m at n v i = pick (leb at i && ltb i (at + n)) (v / 256 ^ (i - at) % 256) (m i)

unfoldable pub loaded : (ℕ → ℕ) → (at n : ℕ) → ℕ
loaded m at zero = 0
loaded m at (suc n) = m at + 256 * loaded m (suc at) n

-- another value of an integer register
unfoldable pub with_register : State → (k v : ℕ) → State
with_register s k v = record { registers = set_at s.registers k v; vectors = s.vectors; memory = s.memory }

unfoldable pub with_memory : State → (at n v : ℕ) → State
with_memory s at n v = record { registers = s.registers; vectors = s.vectors; memory = stored s.memory at n v }

unfoldable pub with_vector : State → (k v : ℕ) → State
with_vector s k v = record { registers = s.registers; vectors = set_at s.vectors k v; memory = s.memory }

-- ---- the prologue; a save counts from `base`

unfoldable pub does : (base : ℕ) → Seh → State → State
does base (Push reg) s = with_register (with_memory s (stack_pointer s - 8) 8 (s.registers reg)) rsp (stack_pointer s - 8)
does base (Alloc z) s = with_register s rsp (stack_pointer s - size64 z)
does base (Frame reg z) s = with_register s reg (stack_pointer s + size64 z)
does base (Save reg false z) s = with_memory s (base + size64 z) 8 (s.registers reg)
does base (Save reg true z) s = with_memory s (base + size64 z) 16 (s.vectors reg)

unfoldable pub prologue_from : (base : ℕ) → List (ℕ × Seh) → State → State
prologue_from base [] s = s
prologue_from base (c ∷ cs) s = prologue_from base cs (does base c.1 s)

-- the stack pointer behind a code
unfoldable pub below : ℕ → Seh → ℕ
below sp (Push reg) = sp - 8
below sp (Alloc z) = sp - size64 z
below sp (Frame reg z) = sp
below sp (Save reg vector z) = sp

-- saves count from the stack pointer where the frame register is set, without a frame register from that at the prologue's end
unfoldable pub base_in : List (ℕ × Seh) → (sp : ℕ) → ℕ
base_in [] sp = sp
base_in (c ∷ cs) sp = pick (is_frame c.1) sp (base_in cs (below sp c.1))

-- the whole prologue
unfoldable pub done : List (ℕ × Seh) → State → State
done cs s = prologue_from (base_in cs (stack_pointer s)) cs s

-- ---- its undoing

unfoldable pub undoes : (base : ℕ) → Seh → State → State
undoes base (Push reg) s = with_register (with_register s reg (loaded s.memory (stack_pointer s) 8)) rsp (stack_pointer s + 8)
undoes base (Alloc z) s = with_register s rsp (stack_pointer s + size64 z)
undoes base (Frame reg z) s = with_register s rsp (s.registers reg - size64 z)
undoes base (Save reg false z) s = with_register s reg (loaded s.memory (base + size64 z) 8)
undoes base (Save reg true z) s = with_vector s reg (loaded s.memory (base + size64 z) 16)

-- the last code first
unfoldable pub undo_from : (base : ℕ) → List (ℕ × Seh) → State → State
undo_from base [] s = s
undo_from base (c ∷ cs) s = undoes base c.1 (undo_from base cs s)

-- what was read undone: saves count from the frame register less its offset, without a frame code from the stack pointer
unfoldable pub undone : List (ℕ × Seh) → State → State
undone cs s = undo_from (pick (has_frame cs) (s.registers (frame_of cs).0 - (frame_of cs).1) (stack_pointer s)) cs s

-- ---- the conditions

-- a code names an integer register
unfoldable pub names : Seh → ℕ → Bool
names (Push reg) k = eqb reg k
names (Alloc z) k = false
names (Frame reg z) k = eqb reg k
names (Save reg false z) k = eqb reg k
names (Save reg true z) k = false

-- no code names register k
abbrev pub Unnamed : ℕ → List (ℕ × Seh) → Type 0
Unnamed k [] = 0 ≤ k
Unnamed k (c ∷ cs) = T (not (names c.1 k)) × Unnamed k cs

-- none after a frame code names its register
abbrev pub KeptBy : Seh → List (ℕ × Seh) → Type 0
KeptBy (Push reg) cs = 0 ≤ reg
KeptBy (Alloc z) cs = 0 ≤ size64 z
KeptBy (Frame reg z) cs = Unnamed reg cs
KeptBy (Save reg vector z) cs = 0 ≤ reg

abbrev pub FrameKept : List (ℕ × Seh) → Type 0
FrameKept [] = 0 ≤ rsp
FrameKept (c ∷ cs) = KeptBy c.1 cs × FrameKept cs

-- the addresses fit 64 bits: the stack pointer never goes below 0, and the frame register's value is below 2^64
abbrev pub FitsCode : ℕ → Seh → Type 0
FitsCode sp (Push reg) = 8 ≤ sp
FitsCode sp (Alloc z) = size64 z ≤ sp
FitsCode sp (Frame reg z) = sp + size64 z < 2 ^ 64
FitsCode sp (Save reg vector z) = 0 ≤ sp

abbrev pub AddressesFit : ℕ → List (ℕ × Seh) → Type 0
AddressesFit sp [] = 0 ≤ sp
AddressesFit sp (c ∷ cs) = FitsCode sp c.1 × AddressesFit (below sp c.1) cs
