-- Worked examples, computed from the reader's definition: the prologue `push rbp; mov rbp, rsp; sub rsp, 32` as GNU and LLVM compilers
-- write it, document 01's allocations, and a refusal of each kind.
use mathlib.Core.Path.{◌≡◌, refl}
use Prim.Native.Nat.{ℕ}
use mathlib.Core.Bool.{true}
use mathlib.Core.Option.{some}
use mathlib.Core.List.{List, [], ◌∷◌}
use lib.IntN.{pos}
use Rattle.format.specs.Prelude.{pick, next, after, good, bad, onward, or_else}
use Rattle.format.specs.Leb.{read_little}
use Rattle.format.specs.Put.{put}
use Rattle.format.specs.declared.Seh.TheVariants.{Push, Alloc, Frame, Save}
use Rattle.format.specs.X64Reader.{operand_bytes, large_size, meaning, read_operand, read_code, read_codes_f, read_codes, header_ok, slot_bytes_in, info_with, read_info, read_x64, fields_of, code_numbers, codes_stored}

frame_bytes : List ℕ
frame_bytes = 1 ∷ 8 ∷ 3 ∷ 5 ∷ 8 ∷ 0x32 ∷ 4 ∷ 3 ∷ 1 ∷ 0x50 ∷ 0 ∷ 0 ∷ []

frame_read : read_x64 frame_bytes 0 15
    ≡ good (record { end = 8; register = 5; offset = 0; codes = (1, Push 5) ∷ (4, Frame 5 (pos 0)) ∷ (8, Alloc (pos 32)) ∷ [] })
unfolding frame_bytes read_x64 read_info header_ok slot_bytes_in info_with read_codes read_codes_f read_code read_operand operand_bytes meaning read_little pick next after onward or_else
frame_read = refl

frame_stored : codes_stored (read_x64 frame_bytes 0 16) (7 ∷ 7 ∷ 7 ∷ 7 ∷ 7 ∷ 7 ∷ 7 ∷ 7 ∷ 7 ∷ 7 ∷ 7 ∷ 7 ∷ 7 ∷ 7 ∷ 7 ∷ 7 ∷ [])
    ≡ 1 ∷ 0 ∷ 5 ∷ 0 ∷ 0 ∷ 4 ∷ 2 ∷ 5 ∷ 0 ∷ 0 ∷ 8 ∷ 1 ∷ 0 ∷ 0 ∷ 32 ∷ 7 ∷ []
unfolding frame_bytes read_x64 read_info header_ok slot_bytes_in info_with read_codes read_codes_f read_code read_operand operand_bytes meaning read_little pick next after onward or_else codes_stored code_numbers fields_of put
frame_stored = refl

-- 128 small, 136 and 524,280 in 16 bits, 524,288 in 32; then a far save of a vector register
allocations : (read_code 0 (4 ∷ 0xf2 ∷ []) ≡ some ((4, Alloc (pos 128)), []))
    × (read_code 0 (4 ∷ 1 ∷ 0x11 ∷ 0 ∷ []) ≡ some ((4, Alloc (pos 136)), []))
    × (read_code 0 (4 ∷ 1 ∷ 0xff ∷ 0xff ∷ []) ≡ some ((4, Alloc (pos 524280)), []))
    × (read_code 0 (4 ∷ 0x11 ∷ 0 ∷ 0 ∷ 8 ∷ 0 ∷ []) ≡ some ((4, Alloc (pos 524288)), []))
    × (read_code 0 (9 ∷ 0x69 ∷ 0 ∷ 0 ∷ 0x10 ∷ 0 ∷ []) ≡ some ((9, Save 6 true (pos 1048576)), []))
unfolding read_code read_operand operand_bytes meaning large_size read_little pick next after
allocations = (refl, refl, refl, refl, refl)

-- version 2, slots past the end, an epilogue code, a large allocation of info 2, an incomplete code, and a list that is too short
refusals : (read_x64 (2 ∷ 0 ∷ 0 ∷ 0 ∷ []) 0 0 ≡ bad 76) × (read_x64 (1 ∷ 0 ∷ 1 ∷ 0 ∷ 4 ∷ []) 0 5 ≡ bad 76)
    × (read_x64 (1 ∷ 0 ∷ 1 ∷ 0 ∷ 4 ∷ 6 ∷ []) 0 5 ≡ bad 77) × (read_x64 (1 ∷ 0 ∷ 2 ∷ 0 ∷ 4 ∷ 0x21 ∷ 0 ∷ 0 ∷ []) 0 9 ≡ bad 77)
    × (read_x64 (1 ∷ 0 ∷ 1 ∷ 0 ∷ 4 ∷ 1 ∷ []) 0 5 ≡ bad 77) × (read_x64 (1 ∷ 0 ∷ 1 ∷ 0 ∷ 4 ∷ 0 ∷ []) 0 4 ≡ bad 54)
unfolding read_x64 read_info header_ok slot_bytes_in info_with read_codes read_codes_f read_code read_operand operand_bytes meaning read_little pick next after onward or_else
refusals = (refl, refl, refl, refl, refl, refl)
