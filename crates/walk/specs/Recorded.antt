-- The file of a recorded fault (document 02, W-202): stack bytes, then registers of 8 bytes, then a trailer of 16 bytes.
use Rattle.std.specs.Prelude.{ℕ, ◌+◌, ◌-◌, ◌*◌, Bool, ◌&&◌, List, length, take, drop, leb, ltb, eqb}
use Rattle.std.proofs.Math.Option.{Option, none, some}
use Rattle.format.specs.Prelude.{pick, next, after, each}
use Rattle.format.specs.Leb.{read_little}
use Rattle.format.specs.Reader.{require, value_or0}

-- a register: its value, or that it is absent
abbrev pub Slot : Type 0
Slot = Option ℕ

pub record Recorded : Type 0 where
  pub stack : List ℕ
  pub slots : List Slot

-- the registers that are followed: 0 to 127
abbrev pub followed : ℕ
followed = 128

-- the most bytes of a file
abbrev pub largest : ℕ
largest = 65536

-- register i: the i-th word of the bytes where i is below the count, and absent from there on
unfoldable pub slot_at : (count : ℕ) → List ℕ → ℕ → Slot
slot_at count bs i = pick (ltb i count) (some (value_or0 (read_little 8 (drop (8 * i) bs)))) none

unfoldable pub slots_of : (count : ℕ) → List ℕ → List Slot
slots_of count bs = each (slot_at count bs) 0 followed

pub record Trailer : Type 0 where
  pub size : ℕ
  pub count : ℕ

-- the trailer matches the file: registers that are followed, right before it, and the stack before them
unfoldable pub matches : (file distance count size : ℕ) → Bool
matches file distance count size = leb count followed && (eqb distance (8 * count) && eqb (size + distance + 16) file)

-- 73: the distance to the first register, the count of registers and the stack's length
unfoldable pub read_trailer : List ℕ → Option Trailer
read_trailer file =
    require (leb 16 (length file) && leb (length file) largest)
    (next (read_little 8 (drop (length file - 16) file)) λ distance r₁. next (read_little 4 r₁) λ count r₂. next (read_little 4 r₂) λ size r₃.
    require (matches (length file) distance count size) (some (record { size = size; count = count })))

unfoldable pub read_recorded : List ℕ → Option Recorded
read_recorded file = after (read_trailer file) λ t. some (record { stack = take t.size file; slots = slots_of t.count (drop t.size file) })
