-- Numbers as bytes: little-endian fields, and LEB128 (DWARF 5, 7.6): seven bits a byte, the lowest first, bit 7 on every byte but the last.
use Rattle.std.specs.Prelude.{ℕ, zero, suc, ◌+◌, ◌-◌, ◌*◌, ◌/◌, ◌%◌, ◌^◌, Bool, true, false, List, [], ◌∷◌, ltb, ℤ, pos, negsuc}
use Rattle.std.proofs.Math.Option.{none, some}
use Rattle.format.specs.Prelude.{pick, Read, next}

-- ---- little-endian fields

-- n in k bytes, the lowest first
unfoldable pub little : ℕ → ℕ → List ℕ
little zero n = []
little (suc k) n = n % 256 ∷ little k (n / 256)

-- the number in the next k bytes
unfoldable pub read_little : ℕ → List ℕ → Read ℕ
read_little zero bs = some (0, bs)
read_little (suc k) [] = none
read_little (suc k) (b ∷ bs) = next (read_little k bs) λ v r. some (b + 256 * v, r)

-- ---- unsigned LEB128 (DWARF 5, 7.6 and figure C.1), the shortest form

-- in at most f + 1 bytes
unfoldable pub uleb_f : ℕ → ℕ → List ℕ
uleb_f zero n = n ∷ []
uleb_f (suc f) n = pick (ltb n 128) (n ∷ []) ((n % 128 + 128) ∷ uleb_f f (n / 128))

-- 64 bits fit ten bytes
unfoldable pub uleb : ℕ → List ℕ
uleb n = uleb_f 9 n

-- ---- signed LEB128 (DWARF 5, 7.6 and figure C.2), the shortest form

-- Seven bits of a number. `negsuc n` is the complement of n in two's complement, so a negative number has the inverted bits of n.
unfoldable pub bits7 : Bool → ℕ → ℕ
bits7 false d = d
bits7 true d = 127 - d

-- in at most f + 1 bytes; bit 6 of the last byte is the sign
unfoldable pub sleb_f : Bool → ℕ → ℕ → List ℕ
sleb_f s zero n = bits7 s n ∷ []
sleb_f s (suc f) n = pick (ltb n 64) (bits7 s n ∷ []) ((bits7 s (n % 128) + 128) ∷ sleb_f s f (n / 128))

unfoldable pub sleb : ℤ → List ℕ
sleb (pos n) = sleb_f false 9 n
sleb (negsuc n) = sleb_f true 9 n

-- ---- the readers (document 01, "LEB numbers": up to ten bytes, and a value that fits 64 bits)

-- at most f bytes
unfoldable pub read_uleb_f : ℕ → List ℕ → Read ℕ
read_uleb_f zero bs = none
read_uleb_f (suc f) [] = none
read_uleb_f (suc f) (b ∷ bs) = pick (ltb b 128) (some (b, bs)) (next (read_uleb_f f bs) λ v r. some (b - 128 + 128 * v, r))

unfoldable pub read_uleb : List ℕ → Read ℕ
read_uleb bs = next (read_uleb_f 10 bs) λ v r. pick (ltb v (2 ^ 64)) (some (v, r)) none

-- d + 128 z
unfoldable pub push : ℕ → ℤ → ℤ
push d (pos n) = pos (d + 128 * n)
push d (negsuc n) = negsuc (127 - d + 128 * n)

-- the last byte, whose bit 6 is the sign
unfoldable pub last7 : ℕ → ℤ
last7 b = pick (ltb b 64) (pos b) (negsuc (127 - b))

-- at most f bytes
unfoldable pub read_sleb_f : ℕ → List ℕ → Read ℤ
read_sleb_f zero bs = none
read_sleb_f (suc f) [] = none
read_sleb_f (suc f) (b ∷ bs) = pick (ltb b 128) (some (last7 b, bs)) (next (read_sleb_f f bs) λ v r. some (push (b - 128) v, r))

-- a number that 64 bits hold, signed
unfoldable pub fits64 : ℤ → Bool
fits64 (pos n) = ltb n (2 ^ 63)
fits64 (negsuc n) = ltb n (2 ^ 63)

unfoldable pub read_sleb : List ℕ → Read ℤ
read_sleb bs = next (read_sleb_f 10 bs) λ v r. pick (fits64 v) (some (v, r)) none
