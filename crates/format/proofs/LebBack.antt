-- Fields and LEB numbers, there and back, and how long they are.
use mathlib.Core.Path.{◌≡◌, refl, ap}
use Prim.Native.Nat.{ℕ, zero, suc, ◌+◌, ◌-◌, ◌*◌, ◌/◌, ◌%◌, ◌^◌, ◌≤◌, ◌<◌}
use native.Mathlib.Omega.{arith}
use mathlib.Core.Bool.{Bool, true, false}
use mathlib.Core.Option.{some}
use mathlib.Core.List.{List, ◌++◌}
use lib.ListN.{length}
use lib.Dec.{T, ltb→lt}
use lib.IntN.{ℤ, pos, negsuc}
use Rattle.format.specs.Prelude.{next}
use Rattle.format.specs.Leb.{little, read_little, uleb_f, uleb, bits7, sleb_f, sleb, read_uleb_f, read_uleb, push, last7, read_sleb_f, fits64, read_sleb}
use Rattle.format.proofs.Choice.{if-le, if-gt, either}

-- ---- fields

pub little_back : (k n : ℕ) (rest : List ℕ) → n < 256 ^ k → read_little k (little k n ++ rest) ≡ some (n, rest)
unfolding little read_little next
little_back zero n rest h = ap (λ (v : ℕ). some (v, rest)) (omega arith)
little_back (suc k) n rest h = rw (little_back k (n / 256) rest (omega arith)) (ap (λ (v : ℕ). some (v, rest)) (omega arith))

pub little-length : (k n : ℕ) → length (little k n) ≡ k
unfolding little
little-length zero n = refl
little-length (suc k) n = rw (little-length k (n / 256))

-- ---- unsigned LEB

uleb_back_f : (f n : ℕ) (rest : List ℕ) → n < 128 ^ suc f → read_uleb_f (suc f) (uleb_f f n ++ rest) ≡ some (n, rest)
unfolding uleb_f read_uleb_f next
uleb_back_f zero n rest h = let l : n < 128 = omega arith in rw if-le
uleb_back_f (suc f) n rest h =
    either (suc n) 128
    (λ l. rw (if-le (suc n) 128) (rw (if-le (suc n) 128)))
    (λ g. rw (if-gt (suc n) 128)
    (let k : 128 < suc (n % 128 + 128) = omega arith in
    rw (if-gt (suc (n % 128 + 128)) 128) (rw (uleb_back_f f (n / 128) rest (omega arith)) (ap (λ (v : ℕ). some (v, rest)) (omega arith)))))

-- every 64-bit number
pub uleb_back : (n : ℕ) (rest : List ℕ) → n < 2 ^ 64 → read_uleb (uleb n ++ rest) ≡ some (n, rest)
unfolding uleb read_uleb next
uleb_back n rest h = rw (uleb_back_f 9 n rest (omega arith)) (rw (if-le (suc n) (2 ^ 64)))

-- ---- signed LEB

-- the number that n stands for, by its sign
unfoldable signed : Bool → ℕ → ℤ
signed false n = pos n
signed true n = negsuc n

bits7_lt : (s : Bool) (n : ℕ) → n < 128 → bits7 s n < 128
unfolding bits7
bits7_lt false n h = h
bits7_lt true n h = omega arith

last_back : (s : Bool) (n : ℕ) → n < 64 → last7 (bits7 s n) ≡ signed s n
unfolding bits7 last7 signed
last_back false n h = rw if-le
last_back true n h = let k : 64 < suc (127 - n) = omega arith in rw if-gt (ap negsuc (omega arith))

push_back : (s : Bool) (n : ℕ) → push (bits7 s (n % 128) + 128 - 128) (signed s (n / 128)) ≡ signed s n
unfolding bits7 push signed
push_back false n = ap pos (omega arith)
push_back true n = ap negsuc (omega arith)

sleb_back_f : (s : Bool) (f n : ℕ) (rest : List ℕ) → n < 64 * 128 ^ f → read_sleb_f (suc f) (sleb_f s f n ++ rest) ≡ some (signed s n, rest)
unfolding sleb_f read_sleb_f next
sleb_back_f s zero n rest h =
    let l : n < 64 = omega arith in
    let k : bits7 s n < 128 = bits7_lt s n (omega arith) in
    rw (if-le, last_back)
sleb_back_f s (suc f) n rest h =
    either (suc n) 64
    (λ l. rw (if-le (suc n) 64)
    (let k : bits7 s n < 128 = bits7_lt s n (omega arith) in rw (if-le (suc (bits7 s n)), last_back)))
    (λ g. rw (if-gt (suc n) 64)
    (let k : 128 < suc (bits7 s (n % 128) + 128) = omega arith in
    rw (if-gt (suc (bits7 s (n % 128) + 128)) 128)
    (rw (sleb_back_f s f (n / 128) rest (omega arith)) (ap (λ (v : ℤ). some (v, rest)) (push_back s n)))))

-- every 64-bit number of both signs
pub sleb_back : (z : ℤ) (rest : List ℕ) → T (fits64 z) → read_sleb (sleb z ++ rest) ≡ some (z, rest)
unfolding sleb read_sleb next fits64 signed
sleb_back (pos n) rest h =
    let k : n < 2 ^ 63 = ltb→lt n (2 ^ 63) h in
    rw (sleb_back_f false 9 n rest (omega arith)) (rw (if-le (suc n) (2 ^ 63)))
sleb_back (negsuc n) rest h =
    let k : n < 2 ^ 63 = ltb→lt n (2 ^ 63) h in
    rw (sleb_back_f true 9 n rest (omega arith)) (rw (if-le (suc n) (2 ^ 63)))

-- ---- lengths

-- a number of k + 1 groups of seven bits has at most k + 1 bytes
uleb_short_f : (f k n : ℕ) → n < 128 ^ suc k → length (uleb_f f n) ≤ suc k
unfolding uleb_f
uleb_short_f zero k n h = omega arith
uleb_short_f (suc f) zero n h = let l : n < 128 = omega arith in rw (if-le (suc n) 128) (omega arith)
uleb_short_f (suc f) (suc k) n h =
    either (suc n) 128 (λ l. rw (if-le (suc n) 128) (omega arith))
    (λ g. rw (if-gt (suc n) 128) (omega (arith, uleb_short_f f k (n / 128) (omega arith))))

pub uleb_short : (k n : ℕ) → n < 128 ^ suc k → length (uleb n) ≤ suc k
unfolding uleb
uleb_short k n h = uleb_short_f 9 k n h

sleb_short_f : (s : Bool) (f k n : ℕ) → n < 64 * 128 ^ k → length (sleb_f s f n) ≤ suc k
unfolding sleb_f
sleb_short_f s zero k n h = omega arith
sleb_short_f s (suc f) zero n h = let l : n < 64 = omega arith in rw (if-le (suc n) 64) (omega arith)
sleb_short_f s (suc f) (suc k) n h =
    either (suc n) 64 (λ l. rw (if-le (suc n) 64) (omega arith))
    (λ g. rw (if-gt (suc n) 64) (omega (arith, sleb_short_f s f k (n / 128) (omega arith))))

-- a number's magnitude, by which its length goes
pub sleb_short_pos : (k n : ℕ) → n < 64 * 128 ^ k → length (sleb (pos n)) ≤ suc k
unfolding sleb
sleb_short_pos k n h = sleb_short_f false 9 k n h

pub sleb_short_neg : (k n : ℕ) → n < 64 * 128 ^ k → length (sleb (negsuc n)) ≤ suc k
unfolding sleb
sleb_short_neg k n h = sleb_short_f true 9 k n h
