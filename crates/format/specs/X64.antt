-- x64 unwind data (Microsoft, "x64 exception handling"): from a function's rows to codes, and from codes to an UNWIND_INFO and a RUNTIME_FUNCTION.
use Rattle.std.specs.Prelude.{ℕ, suc, ◌+◌, ◌-◌, ◌*◌, ◌/◌, ◌%◌, ◌^◌, Bool, true, false, not, ◌&&◌, ◌||◌, List, [], ◌∷◌, ◌++◌, map, length, replicate, leb, ltb, eqb, ℤ, pos, negsuc, neg_ℤ, ◌+ℤ◌, ◌-ℤ◌}
use Rattle.std.proofs.Math.Option.{Option, none, some}
use Rattle.format.specs.Prelude.{pick, Result, good, bad, onward}
use Rattle.format.specs.Constants.{def_cfa_offset_kind, offset_kind, remember_state_kind, image_reloc}
use Rattle.format.specs.Constants.{UWOP_PUSH_NONVOL, UWOP_ALLOC_LARGE, UWOP_ALLOC_SMALL, UWOP_SET_FPREG, UWOP_SAVE_NONVOL, UWOP_SAVE_XMM128}
use Rattle.format.specs.Leb.{little}
use Rattle.format.specs.Machine.{Register, register_of}
use Rattle.format.specs.declared.Machine.{Machine}
use Rattle.format.specs.declared.Row.{Row}
use Rattle.format.specs.declared.Row.TheVariants.{DefCfa, DefCfaOffset, DefCfaRegister, Offset, Restore, Undefined, RememberState, RestoreState, NegateRaState, SameValue, InRegister}
use Rattle.format.specs.declared.Seh.{Seh}
use Rattle.format.specs.declared.Seh.TheVariants.{Push, Alloc, Frame, Save}
use Rattle.format.specs.Rows.{RowAt, kind_of, reg_of, offset_of, same_offset}
use Rattle.format.specs.Lists.{Function, Prologue, Relocation}
use Rattle.format.specs.Headers.{reloc}
use Rattle.format.specs.Writer.{Written, joined, is_empty}

-- ---- from rows to steps (document 01, "x64 codes")

-- the rows before the first RememberState
unfoldable pub before_remember : List RowAt → List RowAt
before_remember [] = []
before_remember (x ∷ xs) = pick (eqb (kind_of x.1) remember_state_kind) [] (x ∷ before_remember xs)

-- the rows of one instruction
pub record Group : Type 0 where
  pub at : ℕ
  pub rows : List Row

-- a row in front of the groups of the rest: it joins the first of them where the offsets are equal
unfoldable pub join_group : RowAt → List Group → List Group
join_group x [] = record { at = x.0; rows = x.1 ∷ [] } ∷ []
join_group x (g ∷ gs) =
    pick (eqb x.0 g.at) (record { at = x.0; rows = x.1 ∷ g.rows } ∷ gs) (record { at = x.0; rows = x.1 ∷ [] } ∷ g ∷ gs)

-- runs of equal offset
unfoldable pub groups : List RowAt → List Group
groups [] = []
groups (x ∷ xs) = join_group x (groups xs)

-- what one instruction of a prologue did; registers by DWARF number. A save counts from the frame address.
pub data Step : Type 0 where
  push : (reg : ℕ) → Step
  alloc : ℤ → Step
  frame : Step
  save : (reg : ℕ) (from : ℤ) → Step

-- steps so far, the first first, each with its offset, and the distance of the frame address above the stack pointer
pub record Prefix : Type 0 where
  pub steps : List (ℕ × Step)
  pub below : ℤ

unfoldable pub more : Prefix → ℕ → Step → ℤ → Prefix
more s at step below = record { steps = s.steps ++ ((at, step) ∷ []); below = below }

-- the only step so far is the push of `reg`
unfoldable pub is_push : ℕ → Step → Bool
is_push reg (push r) = eqb r reg
is_push reg (alloc z) = false
is_push reg frame = false
is_push reg (save r z) = false

unfoldable pub only_push : ℕ → List (ℕ × Step) → Bool
only_push reg [] = false
only_push reg (x ∷ []) = is_push reg x.1
only_push reg (x ∷ y ∷ xs) = false

-- a group of one row
unfoldable pub lone_row : Machine → (last : Bool) → ℕ → Row → Prefix → Result Prefix
lone_row m last at (DefCfa reg z) s = pick (eqb reg m.frame && same_offset z s.below) (good (more s at frame s.below)) (bad 32)
lone_row m last at (DefCfaOffset z) s = good (more s at (alloc (z -ℤ s.below)) z)
lone_row m last at (DefCfaRegister reg) s =
    pick (eqb reg m.frame && last && same_offset s.below (pos (2 * m.word)) && only_push m.frame s.steps)
    (good (more s at frame s.below)) (bad 31)
lone_row m last at (Offset reg z) s = good (more s at (save reg z) s.below)
lone_row m last at (Restore reg) s = bad 33
lone_row m last at (Undefined reg) s = bad 33
lone_row m last at RememberState s = bad 33
lone_row m last at RestoreState s = bad 33
lone_row m last at NegateRaState s = bad 33
lone_row m last at (SameValue reg) s = bad 33
lone_row m last at (InRegister reg other) s = bad 33

-- a group of two rows is a push: DefCfaOffset moves the frame address up by a word, and Offset puts the register in that word
unfoldable pub push_rows : Machine → ℕ → Row → Row → Prefix → Result Prefix
push_rows m at a b s =
    pick
    (eqb (kind_of a) def_cfa_offset_kind && eqb (kind_of b) offset_kind && same_offset (offset_of a -ℤ s.below) (pos m.word)
    && same_offset (offset_of b) (neg_ℤ (offset_of a)))
    (good (more s at (push (reg_of b)) (offset_of a))) (bad 33)

-- the question of a group: 31, 32 or 33, by the source's branches
unfoldable pub read_group : Machine → (last : Bool) → ℕ → List Row → Prefix → Result Prefix
read_group m last at [] s = bad 33
read_group m last at (a ∷ []) s = lone_row m last at a s
read_group m last at (a ∷ b ∷ []) s = push_rows m at a b s
read_group m last at (a ∷ b ∷ c ∷ rs) s = bad 33

unfoldable pub read_groups : Machine → List Group → Prefix → Result Prefix
read_groups m [] s = good s
read_groups m (g ∷ gs) s = onward (read_group m (is_empty gs) g.at g.rows s) (read_groups m gs)

-- ---- from steps to codes

-- the machine's number of a DWARF register, which is below 16; 34
unfoldable pub low16 : Option Register → Result Register
low16 none = bad 34
low16 (some r) = pick (ltb r.number 16) (good r) (bad 34)

-- a save counts from the stack pointer at the prologue's end, which is `below` under the frame address
unfoldable pub code_for : Machine → (below : ℤ) → Step → Result Seh
code_for m below (push reg) = onward (low16 (register_of m reg)) λ r. good (Push r.number)
code_for m below (alloc z) = good (Alloc z)
code_for m below frame = onward (low16 (register_of m m.frame)) λ r. good (Frame r.number (pos 0))
code_for m below (save reg z) = onward (low16 (register_of m reg)) λ r. good (Save r.number r.vector (below +ℤ z))

unfoldable pub codes_for : Machine → (below : ℤ) → List (ℕ × Step) → Result (List (ℕ × Seh))
codes_for m below [] = good []
codes_for m below (x ∷ xs) = onward (code_for m below x.1) λ c. onward (codes_for m below xs) λ cs. good ((x.0, c) ∷ cs)

-- a function's codes: the distance below starts at the bytes that the call pushed
unfoldable pub codes_of : Machine → Function → Result (List (ℕ × Seh))
codes_of m f =
    onward (read_groups m (groups (before_remember f.rows)) (record { steps = []; below = pos m.pushed })) λ s.
    codes_for m s.below s.steps

-- the prologue ends where the last code's instruction does
unfoldable pub end_of : ℕ → List (ℕ × Seh) → ℕ
end_of n [] = n
end_of n (x ∷ xs) = end_of x.0 xs

-- ---- a code's bytes (Microsoft, "UNWIND_CODE" and "Unwind operation code")

-- the offset in the prologue, then the operation in the low four bits and its info in the high four
unfoldable pub node : (at op info : ℕ) → List ℕ
node at op info = at ∷ (op + 16 * info) ∷ []

-- small up to 128; large with info 0, a 16-bit count of eights, or info 1, 32 bits
unfoldable pub alloc_bytes : (at size : ℕ) → List ℕ
alloc_bytes at size =
    pick (leb size 128) (node at UWOP_ALLOC_SMALL (size / 8 - 1))
    (pick (ltb (size / 8) 65536) (node at UWOP_ALLOC_LARGE 0 ++ little 2 (size / 8)) (node at UWOP_ALLOC_LARGE 1 ++ little 4 size))

-- a save: near counts in `unit`s of 8 or 16 where 16 bits hold it, far in bytes
unfoldable pub slot_bytes : (near unit at reg above : ℕ) → List ℕ
slot_bytes near unit at reg above =
    pick (eqb (above % unit) 0 && ltb (above / unit) 65536) (node at near reg ++ little 2 (above / unit)) (node at (suc near) reg ++ little 4 above)

unfoldable pub save_bytes : (vector : Bool) → (at reg above : ℕ) → List ℕ
save_bytes false = slot_bytes UWOP_SAVE_NONVOL 8
save_bytes true = slot_bytes UWOP_SAVE_XMM128 16

-- what a size or an offset is where it is not negative
unfoldable pub size64 : ℤ → ℕ
size64 (pos n) = n
size64 (negsuc n) = 0

unfoldable pub code_bytes : ℕ → Seh → List ℕ
code_bytes at (Push reg) = node at UWOP_PUSH_NONVOL reg
code_bytes at (Alloc z) = alloc_bytes at (size64 z)
code_bytes at (Frame reg z) = node at UWOP_SET_FPREG 0
code_bytes at (Save reg vector z) = save_bytes vector at reg (size64 z)

-- ---- the questions of a code, 34 to 39, and of its function, 35, 40, 41

unfoldable pub register_in : Seh → ℕ
register_in (Push reg) = reg
register_in (Alloc z) = 0
register_in (Frame reg z) = reg
register_in (Save reg vector z) = reg

-- an allocation is positive and a multiple of 8, and below 2^32
unfoldable pub alloc_no : ℤ → Option ℕ
alloc_no (negsuc n) = some 36
alloc_no (pos n) = pick (eqb n 0 || not (eqb (n % 8) 0)) (some 36) (pick (ltb n (2 ^ 32)) none (some 37))

-- a save is not below the frame, and below 2^32
unfoldable pub save_no : ℤ → Option ℕ
save_no (negsuc n) = some 38
save_no (pos n) = pick (ltb n (2 ^ 32)) none (some 39)

unfoldable pub operand_no : Seh → Option ℕ
operand_no (Push reg) = none
operand_no (Alloc z) = alloc_no z
operand_no (Frame reg z) = none
operand_no (Save reg vector z) = save_no z

unfoldable pub code_no : ℕ × Seh → Option ℕ
code_no x = pick (leb (register_in x.1) 15) (pick (leb x.0 255) (operand_no x.1) (some 35)) (some 34)

-- a frame offset is 0 to 240 and a multiple of 16
unfoldable pub frame_ok : ℤ → Bool
frame_ok (pos n) = leb n 240 && eqb (n % 16) 0
frame_ok (negsuc n) = false

unfoldable pub frame_no : Seh → Option ℕ
frame_no (Push reg) = none
frame_no (Alloc z) = none
frame_no (Frame reg z) = pick (frame_ok z) none (some 41)
frame_no (Save reg vector z) = none

-- the first no of two, and of a list
unfoldable pub or_no : Option ℕ → Option ℕ → Option ℕ
or_no none n = n
or_no (some k) n = some k

unfoldable pub first_no : {A : Type 0} → (A → Option ℕ) → List A → Option ℕ
first_no f [] = none
first_no f (x ∷ xs) = or_no (f x) (first_no f xs)

-- slots of two bytes
unfoldable pub slots : List (ℕ × Seh) → ℕ
slots [] = 0
slots (x ∷ xs) = length (code_bytes x.0 x.1) / 2 + slots xs

unfoldable pub prologue_no : (end : ℕ) → List (ℕ × Seh) → Option ℕ
prologue_no end cs =
    or_no (first_no code_no cs)
    (or_no (pick (leb end 255) none (some 35)) (or_no (pick (leb (slots cs) 255) none (some 40)) (first_no (λ c. frame_no c.1) cs)))

-- ---- UNWIND_INFO (Microsoft, "struct UNWIND_INFO")

-- the last Frame code's register in the low four bits and its offset in sixteens in the high four; 0 without one
unfoldable pub frame_or : ℕ → Seh → ℕ
frame_or b (Push reg) = b
frame_or b (Alloc z) = b
frame_or b (Frame reg z) = reg + 16 * (size64 z / 16)
frame_or b (Save reg vector z) = b

unfoldable pub frame_byte : ℕ → List (ℕ × Seh) → ℕ
frame_byte b [] = b
frame_byte b (x ∷ xs) = frame_byte (frame_or b x.1) xs

-- the codes in reverse
unfoldable pub reversed : List (ℕ × Seh) → List ℕ
reversed [] = []
reversed (x ∷ xs) = reversed xs ++ code_bytes x.0 x.1

-- version 1 and no flags, the prologue's end, the count of slots, the frame byte, the codes, and two zero bytes behind an odd count
unfoldable pub info_bytes : (end : ℕ) → List (ℕ × Seh) → List ℕ
info_bytes end cs = 1 ∷ end ∷ slots cs ∷ frame_byte 0 cs ∷ (reversed cs ++ replicate (2 * (slots cs % 2)) 0)

-- ---- RUNTIME_FUNCTION: start, end and info, each a blank of 4 bytes with an Image relocation (Microsoft, "struct RUNTIME_FUNCTION")

-- the `$unwind$` marker of a symbol
abbrev pub marker : ℕ → ℕ
marker s = 2 ^ 32 + s

unfoldable pub runtime_relocs : (at : ℕ) → Prologue → List Relocation
runtime_relocs at f =
    reloc at f.symbol image_reloc 4 0 ∷ reloc (at + 4) f.symbol image_reloc 4 f.size
    ∷ reloc (at + 8) (marker f.symbol) image_reloc 4 0 ∷ []

-- the places of the infos, from `at` on; the relocations of the rows, from `at` on
unfoldable pub markers_from : ℕ → List Prologue → List ℕ
markers_from at [] = []
markers_from at (f ∷ fs) = at ∷ markers_from (at + length (info_bytes f.end f.codes)) fs

unfoldable pub runtime_from : ℕ → List Prologue → List Relocation
runtime_from at [] = []
runtime_from at (f ∷ fs) = runtime_relocs at f ++ runtime_from (at + 12) fs

unfoldable pub x64 : List Prologue → Written
x64 fs =
    record {
      places = markers_from 0 fs;
      bytes = replicate (12 * length fs) 0;
      relocations = runtime_from 0 fs;
      sites = joined (map (λ f. info_bytes f.end f.codes) fs);
    }

-- ---- the prologues of a list of functions, by their rows

unfoldable pub prologue_of : Function → List (ℕ × Seh) → Prologue
prologue_of f cs = record { symbol = f.symbol; size = f.size; end = end_of 0 cs; codes = cs }
