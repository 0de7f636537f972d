-- x64 unwind data read (Microsoft, "x64 exception handling"): an UNWIND_INFO's header, and its codes in prologue order.
use Rattle.std.specs.Prelude.{ℕ, zero, suc, ◌+◌, ◌*◌, ◌/◌, ◌%◌, Bool, true, false, ◌&&◌, ◌||◌, List, [], ◌∷◌, ◌++◌, length, get_or, take, drop, leb, eqb, pos}
use Rattle.std.proofs.Math.Option.{Option, none, some}
use Rattle.std.specs.Int.{w64}
use Rattle.std.proofs.Common.{of_z}
use Rattle.format.specs.Prelude.{pick, Read, next, after, Result, good, bad, onward, or_else}
use Rattle.format.specs.Constants.{UWOP_PUSH_NONVOL, UWOP_ALLOC_LARGE, UWOP_ALLOC_SMALL, UWOP_SET_FPREG, UWOP_SAVE_NONVOL, UWOP_SAVE_NONVOL_FAR, UWOP_SAVE_XMM128, UWOP_SAVE_XMM128_FAR, push_kind, alloc_kind, frame_kind, save_kind}
use Rattle.format.specs.Leb.{read_little}
use Rattle.format.specs.Put.{put}
use Rattle.format.specs.declared.Seh.{Seh}
use Rattle.format.specs.declared.Seh.TheVariants.{Push, Alloc, Frame, Save}
use Rattle.format.specs.Lists.{code_stride}
use Rattle.format.specs.Answers.{bit}

-- ---- one code (Microsoft, "struct UNWIND_CODE"): two bytes, and the slots of its operand

-- the bytes of the operand behind an operation: a code of one slot has none, of two slots 2, of three slots 4; nothing for an operation
-- that `seh` never writes, and for a large allocation whose info is above 1
unfoldable pub operand_bytes : (op info : ℕ) → Option ℕ
operand_bytes op info =
    pick (eqb op UWOP_PUSH_NONVOL || eqb op UWOP_ALLOC_SMALL || eqb op UWOP_SET_FPREG) (some 0)
    (pick (eqb op UWOP_SAVE_NONVOL || eqb op UWOP_SAVE_XMM128) (some 2)
    (pick (eqb op UWOP_SAVE_NONVOL_FAR || eqb op UWOP_SAVE_XMM128_FAR) (some 4)
    (pick (eqb op UWOP_ALLOC_LARGE) (pick (eqb info 0) (some 2) (pick (eqb info 1) (some 4) none)) none)))

-- the header's last byte: the frame register in its low four bits, and its offset in sixteens in the high four
abbrev pub frame_register : ℕ → ℕ
frame_register frame = frame % 16

abbrev pub frame_offset : ℕ → ℕ
frame_offset frame = 16 * (frame / 16)

-- a large allocation is counted in eights where its info is 0, else in bytes
unfoldable pub large_size : (info operand : ℕ) → ℕ
large_size info v = pick (eqb info 0) (8 * v) v

-- what an operation says, by its info and its operand; the frame code's register and offset stand in the header. Near saves count in
-- eights, those of vector registers in sixteens, far ones in bytes.
unfoldable pub meaning : (frame op info operand : ℕ) → Seh
meaning frame op info v =
    pick (eqb op UWOP_PUSH_NONVOL) (Push info)
    (pick (eqb op UWOP_ALLOC_LARGE) (Alloc (pos (large_size info v)))
    (pick (eqb op UWOP_ALLOC_SMALL) (Alloc (pos (8 * info + 8)))
    (pick (eqb op UWOP_SET_FPREG) (Frame (frame_register frame) (pos (frame_offset frame)))
    (pick (eqb op UWOP_SAVE_NONVOL) (Save info false (pos (8 * v)))
    (pick (eqb op UWOP_SAVE_NONVOL_FAR) (Save info false (pos v))
    (pick (eqb op UWOP_SAVE_XMM128) (Save info true (pos (16 * v))) (Save info true (pos v))))))))

unfoldable pub read_operand : (frame op info : ℕ) → List ℕ → Read Seh
read_operand frame op info bs = after (operand_bytes op info) λ n. next (read_little n bs) λ v rest. some (meaning frame op info v, rest)

-- the offset in the prologue, the operation in the low four bits of the next byte and its info in the high four, and the operand
unfoldable pub read_code : (frame : ℕ) → List ℕ → Read (ℕ × Seh)
read_code frame [] = none
read_code frame (at ∷ []) = none
read_code frame (at ∷ b ∷ bs) = next (read_operand frame (b % 16) (b / 16) bs) λ c rest. some ((at, c), rest)

-- ---- a record (Microsoft, "struct UNWIND_INFO")

-- The codes stand in reverse: one that is read goes in front of those read before it. At most f - 1 codes.
unfoldable pub read_codes_f : ℕ → (frame : ℕ) → List (ℕ × Seh) → List ℕ → Option (List (ℕ × Seh))
read_codes_f zero frame cs bs = none
read_codes_f (suc f) frame cs [] = some cs
read_codes_f (suc f) frame cs (b ∷ bs) = next (read_code frame (b ∷ bs)) λ c rest. read_codes_f f frame (c ∷ cs) rest

-- the codes of slots that all belong to them, in prologue order
unfoldable pub read_codes : (frame : ℕ) → List ℕ → Option (List (ℕ × Seh))
read_codes frame bs = read_codes_f (suc (length bs)) frame [] bs

-- version 1 and no flags, a header of four bytes, and as many slots as its third byte says
unfoldable pub header_ok : List ℕ → Bool
header_ok bs = leb 4 (length bs) && eqb (get_or bs 0 0) 1 && leb (4 + 2 * get_or bs 2 0) (length bs)

unfoldable pub slot_bytes_in : List ℕ → List ℕ
slot_bytes_in bs = take (2 * get_or bs 2 0) (drop 4 bs)

-- what a record says: where the prologue ends, the frame register and offset of the header, and the codes
pub record Info : Type 0 where
  pub end : ℕ
  pub register : ℕ
  pub offset : ℕ
  pub codes : List (ℕ × Seh)

unfoldable pub info_with : List ℕ → List (ℕ × Seh) → Info
info_with bs cs = record { end = get_or bs 1 0; register = frame_register (get_or bs 3 0); offset = frame_offset (get_or bs 3 0); codes = cs }

-- the record at the front of a list: 76 of its header and slots, then 77 of its codes
unfoldable pub read_info : List ℕ → Result Info
read_info bs = pick (header_ok bs) (onward (or_else (read_codes (get_or bs 3 0) (slot_bytes_in bs)) 77) λ cs. good (info_with bs cs)) (bad 76)

-- the record at a place, whose codes fit a list of `room` numbers, five each: 54
unfoldable pub read_x64 : List ℕ → (place room : ℕ) → Result Info
read_x64 s place room = onward (read_info (drop place s)) λ i. pick (leb (code_stride * length i.codes) room) (good i) (bad 54)

-- ---- as numbers

-- a code behind its offset, as `seh` takes it: kind, register, vector mark and value
unfoldable pub fields_of : Seh → List ℕ
fields_of (Push reg) = push_kind ∷ reg ∷ 0 ∷ 0 ∷ []
fields_of (Alloc z) = alloc_kind ∷ 0 ∷ 0 ∷ of_z w64 z ∷ []
fields_of (Frame reg z) = frame_kind ∷ reg ∷ 0 ∷ of_z w64 z ∷ []
fields_of (Save reg vector z) = save_kind ∷ reg ∷ bit vector ∷ of_z w64 z ∷ []

unfoldable pub code_numbers : List (ℕ × Seh) → List ℕ
code_numbers [] = []
code_numbers (c ∷ cs) = (c.0 ∷ fields_of c.1) ++ code_numbers cs

-- 1 where a code sets the frame register
unfoldable pub is_frame : Seh → Bool
is_frame (Push reg) = false
is_frame (Alloc z) = false
is_frame (Frame reg z) = true
is_frame (Save reg vector z) = false

unfoldable pub has_frame : List (ℕ × Seh) → Bool
has_frame [] = false
has_frame (c ∷ cs) = is_frame c.1 || has_frame cs

-- number (0: read), the prologue's end, whether a code sets the frame register, its register and offset, and the count of codes
unfoldable pub info_numbers : Result Info → List ℕ
info_numbers (bad n) = n ∷ 0 ∷ 0 ∷ 0 ∷ 0 ∷ 0 ∷ []
info_numbers (good i) = 0 ∷ i.end ∷ bit (has_frame i.codes) ∷ i.register ∷ i.offset ∷ length i.codes ∷ []

-- the lent list at exit: the codes at its front and the rest as it was; unchanged on a refusal
unfoldable pub codes_stored : Result Info → List ℕ → List ℕ
codes_stored (bad n) old = old
codes_stored (good i) old = put old 0 (code_numbers i.codes)
