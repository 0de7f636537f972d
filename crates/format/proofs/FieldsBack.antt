-- What headers and records share: the word, the bytes of a pointer, bytes behind their count, and the second field.
use mathlib.Core.Path.{◌≡◌, refl}
use Prim.Native.Nat.{ℕ, zero, suc, ◌%◌, ◌^◌, ◌≤◌, ◌<◌}
use native.Mathlib.Omega.{arith}
use mathlib.Core.Bool.{Bool, true, false, ◌||◌}
use mathlib.Core.Logic.{⊎_elim}
use mathlib.Core.Option.{Option, none, some}
use mathlib.Core.List.{List, ◌++◌, append_assoc}
use lib.ListN.{length, replicate, length-append}
use lib.Seq.{take_at, drop_at}
use lib.Dec.{T, eqb}
use mir.Facts.{or_yes, eqb_yes}
use Rattle.format.specs.Prelude.{pick, next}
use Rattle.format.specs.Leb.{little, read_little}
use Rattle.format.specs.Machine.{is_word_size}
use Rattle.format.specs.Headers.{size_of, pointer_size, size_or0, pointer_bytes, counted}
use Rattle.format.specs.Reader.{value_or0, second, read_many, read_counted}
use Rattle.format.specs.Questions.{is_some}
use Rattle.format.proofs.Choice.{if-le}
use Rattle.format.proofs.LebBack.{little_back, uleb_back, uleb_short}

-- ---- the word

pub word_small : (w : ℕ) → T (is_word_size w) → (0 < w) × (w ≤ 8)
unfolding is_word_size
word_small w t =
    ⊎_elim
    (λ h. ⊎_elim (λ a. let e : w ≡ 2 = eqb_yes a in (omega arith, omega arith)) (λ a. let e : w ≡ 4 = eqb_yes a in (omega arith, omega arith))
    (or_yes (eqb w 2) (eqb w 4) h))
    (λ a. let e : w ≡ 8 = eqb_yes a in (omega arith, omega arith))
    (or_yes (eqb w 2 || eqb w 4) (eqb w 8) t)

-- ---- encodings

picked_size : (test : Bool) (o : Option ℕ) → T (is_some (pick test o none)) → pick test o none ≡ some (size_or0 o)
unfolding pick is_some size_or0
picked_size true none t = absurd t
picked_size true (some n) t = refl
picked_size false o t = absurd t

-- what is read of an accepted pointer is what was written
pub pointer_size_lem : (indirect : Bool) (word e : ℕ) → T (is_some (pointer_size indirect word e)) → pointer_size indirect word e ≡ some (pointer_bytes word e)
unfolding pointer_size pointer_bytes
pointer_size_lem indirect word e t = picked_size _ (size_of word (e % 128)) t

size_pick : (test : Bool) (a b : Option ℕ) → size_or0 a ≤ 8 → size_or0 b ≤ 8 → size_or0 (pick test a b) ≤ 8
unfolding pick
size_pick true a b h k = h
size_pick false a b h k = k

pub pointer_small : (word e : ℕ) → word ≤ 8 → pointer_bytes word e ≤ 8
unfolding pointer_bytes size_of size_or0
pointer_small word e h = size_pick _ _ _ h (size_pick _ _ _ (omega arith) (size_pick _ _ _ (omega arith) (omega arith)))

-- ---- bytes behind their count

pub many_back : (n : ℕ) (xs rest : List ℕ) → length xs ≡ n → read_many n (xs ++ rest) ≡ some (xs, rest)
unfolding read_many
many_back n xs rest e =
    let k : n ≤ length (xs ++ rest) = rw length-append (omega arith) in
    rw (if-le, take_at xs rest n e, drop_at xs rest n e)

pub counted_back : (xs rest : List ℕ) → length xs < 2 ^ 64 → read_counted (counted xs ++ rest) ≡ some (xs, rest)
unfolding read_counted counted next
counted_back xs rest h = rw (append_assoc, uleb_back (length xs) (xs ++ rest) h) (many_back (length xs) xs rest refl)

-- a count below 128 is one byte
pub counted_short : (xs : List ℕ) → length xs < 128 → length (counted xs) ≤ suc (length xs)
unfolding counted
counted_short xs h = rw length-append (omega (arith, uleb_short 0 (length xs) (omega arith)))

-- blank bytes are a zero
pub blank_back : (k : ℕ) (rest : List ℕ) → read_little k (replicate k 0 ++ rest) ≡ some (0, rest)
unfolding read_little next
blank_back zero rest = refl
blank_back (suc k) rest = rw (blank_back k rest)

-- ---- the second field

pub second_back : (n : ℕ) (rest : List ℕ) → n < 2 ^ 32 → second (little 4 n ++ rest) ≡ n
unfolding second value_or0
second_back n rest h = rw (little_back 4 n rest (omega arith))
