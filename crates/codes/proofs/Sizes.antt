-- How long a code's nodes are: 2, 4 or 6 bytes, and so how many slots some codes have and how long they and their record are.
use mathlib.Core.Path.{◌≡◌, refl}
use Prim.Native.Nat.{ℕ, ◌+◌, ◌*◌, ◌/◌, ◌%◌, ◌^◌, ◌≤◌, ◌<◌}
use native.Mathlib.Omega.{arith}
use mathlib.Core.Bool.{Bool, true, false}
use mathlib.Core.List.{List, [], ◌∷◌}
use lib.Dec.{leb, ltb}
use lib.IntN.{ℤ, pos, negsuc, nat_abs}
use lib.Signed.{mag}
use Rattle.std.specs.Prelude.{Result, Ok, Err}
use Rattle.std.specs.Result.{OkIff, result_unwrap_or}
use Rattle.std.specs.Int.{FitsUnsignedBits}
use lib.ListN.{length, length-append, replicate, length-replicate}
use Rattle.format.specs.declared.Seh.{Seh}
use Rattle.format.specs.declared.Seh.TheVariants.{Push, Alloc, Frame, Save}
use Rattle.format.specs.X64.{node, size64, code_bytes, slots, reversed, info_bytes}
use Rattle.format.proofs.Choice.{picked}
use Rattle.codes.specs.Codes.{is_near, alloc_size, save_size}
use Rattle.codes.proofs.Forms.{alloc_length, save-length}

-- a size by the library's conversion
pub converted : {E : Type 0} (z : ℤ) (r : Result ℕ E) → mag z < 2 ^ 63 → OkIff r (FitsUnsignedBits 64 z) (nat_abs z) → result_unwrap_or r 0 ≡ size64 z
unfolding size64
converted (pos n) (Ok m) k h = h.1
converted (pos n) (Err e) k h = absurd (h (omega arith))
converted (negsuc n) (Ok m) k h = absurd h.0
converted (negsuc n) (Err e) k h = refl

-- 2, 4 or 6
pub record Few (n : ℕ) : Type 0 where
  pub least : 2 ≤ n
  pub most : n ≤ 6
  pub even : n % 2 ≡ 0

two : Few 2
two = record { least = omega arith; most = omega arith; even = refl }

four : Few 4
four = record { least = omega arith; most = omega arith; even = refl }

six : Few 6
six = record { least = omega arith; most = omega arith; even = refl }

few_save : (vector : Bool) (above : ℕ) → Few (save_size vector above)
unfolding save_size
few_save false above = picked Few (is_near 8 above) four six
few_save true above = picked Few (is_near 16 above) four six

few_alloc : (size : ℕ) → Few (alloc_size size)
unfolding alloc_size
few_alloc size = picked Few (leb size 128) two (picked Few (ltb (size / 8) 65536) four six)

pub code_few : (at : ℕ) (code : Seh) → Few (length (code_bytes at code))
unfolding code_bytes node
code_few at (Push reg) = two
code_few at (Alloc z) = rw (alloc_length at (size64 z)) (few_alloc (size64 z))
code_few at (Frame reg z) = two
code_few at (Save reg vector z) = rw (save-length vector at reg (size64 z)) (few_save vector (size64 z))

-- ---- some codes

pub slots_most : (cs : List (ℕ × Seh)) → slots cs ≤ 3 * length cs
unfolding slots
slots_most [] = omega arith
slots_most (x ∷ xs) = omega (arith, slots_most xs, (code_few x.0 x.1).most)

pub reversed-length : (cs : List (ℕ × Seh)) → length (reversed cs) ≡ 2 * slots cs
unfolding slots reversed
reversed-length [] = refl
reversed-length (x ∷ xs) =
    omega (arith, length-append (reversed xs) (code_bytes x.0 x.1), reversed-length xs, (code_few x.0 x.1).even)

pub info_length : (end : ℕ) (cs : List (ℕ × Seh)) → length (info_bytes end cs) ≡ 4 + 2 * slots cs + 2 * (slots cs % 2)
unfolding info_bytes
info_length end cs =
    omega (arith, length-append (reversed cs) (replicate (2 * (slots cs % 2)) 0), reversed-length cs, length-replicate {A = ℕ} (2 * (slots cs % 2)) 0)

-- by a count of the slots
pub info_parts : (end : ℕ) (cs : List (ℕ × Seh)) {held : ℕ} → held ≡ slots cs
    → (length (info_bytes end cs) ≡ 4 + 2 * held + 2 * (held % 2)) × (length (reversed cs) ≡ 2 * held)
info_parts end cs e = rw e (info_length end cs, reversed-length cs)
