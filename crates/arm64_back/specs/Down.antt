-- How far down a packed word's prologue moves the stack pointer (Microsoft, "ARM64 exception handling",
-- "Packed unwind data": FrameSize is the whole frame, in 16 bytes).
use Rattle.std.specs.Prelude.{◌≡◌, ℕ, ◌+◌, ◌*◌, ◌%◌, Bool, true, ◌&&◌, ◌||◌, List, [], ◌∷◌, eqb, Some, None}
use Rattle.std.specs.Prelude as code
use Rattle.std.proofs.Math.Option.{Option, none, some}
use Rattle.format.specs.Prelude.{pick, after}
use Rattle.arm64.specs.declared.Code.{Code}
use Rattle.arm64.specs.Codes.{k_alloc, k_r19_r20_x, k_fplr_x, k_regp_x, k_reg_x, k_fregp_x, k_freg_x}
use Rattle.arm64.specs.Meaning.{Effect, prologue_means}
use Rattle.arm64.specs.Packed.{packed_of, packed_ok, packed_prologue}

-- what the stack pointer goes down in all; none where a code means nothing
unfoldable pub down_through : List (Option Effect) → Option ℕ
down_through [] = some 0
down_through (none ∷ es) = none
down_through (some e ∷ es) = after (down_through es) λ n. some (e.down + n)

-- a word of flag 1 or 2 that the page defines
unfoldable pub is_defined : (word : ℕ) → Bool
is_defined word = (eqb (word % 4) 1 || eqb (word % 4) 2) && packed_ok (packed_of word)

unfoldable pub packed_down : (word : ℕ) → Option ℕ
packed_down word = pick (is_defined word) (down_through (prologue_means (packed_prologue (packed_of word)))) none

-- of a word that is defined: 16 times its FrameSize in all
abbrev pub DownByFrame : (word : ℕ) → code.Option ℕ → Type 0
DownByFrame word r = is_defined word ≡ true → r ≡ Some (16 * (packed_of word).frame)

-- a number, where there is one, as the code has it
abbrev pub number_in : Option ℕ → code.Option ℕ
number_in none = None
number_in (some n) = Some n

-- ---- by a code's kind

unfoldable pub moves : (kind : ℕ) → Bool
moves k = eqb k k_alloc || eqb k k_r19_r20_x || eqb k k_fplr_x || eqb k k_regp_x || eqb k k_reg_x || eqb k k_fregp_x || eqb k k_freg_x

unfoldable pub down_by : Code → ℕ
down_by c = pick (moves c.kind) c.offset 0

-- and of a place of the prologue, which may have no code
unfoldable pub slot_down : Option Code → ℕ
slot_down none = 0
slot_down (some c) = down_by c
