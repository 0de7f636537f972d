-- The answer to a question, and a code held as bytes beside their count.
use Rattle.std.specs.Prelude.{◌≡◌, ℕ, ◌/◌, ◌%◌, ◌≤◌, Bool, true, false, ◌&&◌, List, Result, Ok, Err, leb, ltb, eqb, length, take}
use Rattle.std.proofs.Math.Option.{Option, none, some}
use Rattle.format.specs.Prelude.{pick}
use Rattle.format.specs.declared.Seh.{Seh}
use Rattle.format.specs.X64.{frame_no}
use Rattle.codes.specs.declared.Code.{Code}

-- a yes, or the number of the question that was answered by no
unfoldable pub yes_or_no : Option ℕ → Result (Unit {0}) ℕ
yes_or_no none = Ok tt
yes_or_no (some n) = Err n

-- question 41 of a code with its offset
abbrev pub frame_ask : ℕ × Seh → Option ℕ
frame_ask x = frame_no x.1

-- the nodes are the bytes bs
pub record Holds (r : Code) (bs : List ℕ) : Type 0 where
  pub bytes : take r.count r.bytes ≡ bs
  pub counted : r.count ≡ length bs
  pub most : r.count ≤ 6
  pub six : length r.bytes ≡ 6

-- a save's distance that the near form counts, in units
unfoldable pub is_near : (unit above : ℕ) → Bool
is_near unit above = eqb (above % unit) 0 && ltb (above / unit) 65536

-- how many bytes an allocation and a save have
unfoldable pub alloc_size : ℕ → ℕ
alloc_size size = pick (leb size 128) 2 (pick (ltb (size / 8) 65536) 4 6)

unfoldable pub save_size : (vector : Bool) → ℕ → ℕ
save_size false above = pick (is_near 8 above) 4 6
save_size true above = pick (is_near 16 above) 4 6
