-- Fields that stand one behind the other, written, are the bytes that they were read from.
use Rattle.std.proofs.Common.{◌≡◌, ℕ, zero, suc, ◌+◌, ◌<◌, ◌≤◌, List, [], ◌∷◌, ◌++◌, length, take, drop, get_or, refl, sym, subst, ◌∙◌, arith, length-drop}
use Rattle.std.specs.Int.{w16, w32, w64, to_le_bytes, from_le_bytes}
use Rattle.std.proofs.Math.Seq.{take-add, take-suc, take-length}
use Rattle.std.proofs.lemmas.Grind.{common_steps}
use Rattle.std.proofs.lemmas.List.{get_or-drop, length-take-le}
use Rattle.std.proofs.lemmas.Nat.{le_bytes_2, le_bytes_4, le_bytes_8}
use Rattle.elf.specs.declared.«class».Class.TheVariants.{Bits32, Bits64}
use Rattle.elf.specs.Fields.{field, piece}
use Rattle.elf.proofs.Tables.{field_at}
use Rattle.elf_layout.specs.Written.{AreBytes, SectionIsWritten, SegmentIsWritten, SymbolIsWritten}

taken : (n : ℕ) (bytes : List ℕ) → AreBytes bytes → AreBytes (take n bytes)
taken zero bytes h i = grind (arith, common_steps)
taken (suc n) [] h i = grind (arith, common_steps)
taken (suc n) (b ∷ bytes) h zero = h zero
taken (suc n) (b ∷ bytes) h (suc i) = taken n bytes (λ j. h (suc j)) i

dropped : (n : ℕ) (bytes : List ℕ) → AreBytes bytes → AreBytes (drop n bytes)
dropped n bytes h i = rw get_or-drop (h (n + i))

piece_bytes : (k n : ℕ) (r : List ℕ) → AreBytes r → AreBytes (piece r k n)
piece_bytes k n r h = taken n (drop k r) (dropped k r h)

piece_length : (k n : ℕ) (r : List ℕ) → k + n ≤ length r → length (piece r k n) ≡ n
piece_length k n r le = length-take-le n (drop k r) (omega (arith, length-drop k r))

-- a field is that of its own bytes
own_2 : (r : List ℕ) (k : ℕ) → field w16 r k ≡ from_le_bytes w16 (piece r k 2)
unfolding field
own_2 r k =
    let e : k + 0 ≡ k = omega arith in
    sym (rw e at (field_at r k 2 0 w16 (omega arith) (omega arith)))

own_4 : (r : List ℕ) (k : ℕ) → field w32 r k ≡ from_le_bytes w32 (piece r k 4)
unfolding field
own_4 r k =
    let e : k + 0 ≡ k = omega arith in
    sym (rw e at (field_at r k 4 0 w32 (omega arith) (omega arith)))

own_8 : (r : List ℕ) (k : ℕ) → field w64 r k ≡ from_le_bytes w64 (piece r k 8)
unfolding field
own_8 r k =
    let e : k + 0 ≡ k = omega arith in
    sym (rw e at (field_at r k 8 0 w64 (omega arith) (omega arith)))

back_2 : (r : List ℕ) (k : ℕ) → AreBytes r → k + 2 ≤ length r → to_le_bytes w16 (field w16 r k) ≡ piece r k 2
back_2 r k h le =
    le_bytes_2 (piece r k 2) (field w16 r k) (piece_length k 2 r le) (piece_bytes k 2 r h) (own_2 r k)

back_4 : (r : List ℕ) (k : ℕ) → AreBytes r → k + 4 ≤ length r → to_le_bytes w32 (field w32 r k) ≡ piece r k 4
back_4 r k h le =
    le_bytes_4 (piece r k 4) (field w32 r k) (piece_length k 4 r le) (piece_bytes k 4 r h) (own_4 r k)

back_8 : (r : List ℕ) (k : ℕ) → AreBytes r → k + 8 ≤ length r → to_le_bytes w64 (field w64 r k) ≡ piece r k 8
back_8 r k h le =
    le_bytes_8 (piece r k 8) (field w64 r k) (piece_length k 8 r le) (piece_bytes k 8 r h) (own_8 r k)

-- the bytes in front, and one field more
more : (front bytes r : List ℕ) (k n : ℕ) → front ≡ take k r
    → bytes ≡ piece r k n → front ++ bytes ≡ take (k + n) r
more front bytes r k n e f = rw (take-add k n r, e, f) refl

then_2 : (front r : List ℕ) (k : ℕ) → AreBytes r → k + 2 ≤ length r → front ≡ take k r
    → front ++ to_le_bytes w16 (field w16 r k) ≡ take (k + 2) r
then_2 front r k h le e = more front (to_le_bytes w16 (field w16 r k)) r k 2 e (back_2 r k h le)

then_4 : (front r : List ℕ) (k : ℕ) → AreBytes r → k + 4 ≤ length r → front ≡ take k r
    → front ++ to_le_bytes w32 (field w32 r k) ≡ take (k + 4) r
then_4 front r k h le e = more front (to_le_bytes w32 (field w32 r k)) r k 4 e (back_4 r k h le)

then_8 : (front r : List ℕ) (k : ℕ) → AreBytes r → k + 8 ≤ length r → front ≡ take k r
    → front ++ to_le_bytes w64 (field w64 r k) ≡ take (k + 8) r
then_8 front r k h le e = more front (to_le_bytes w64 (field w64 r k)) r k 8 e (back_8 r k h le)

then_1 : (front r : List ℕ) (k : ℕ) → k + 1 ≤ length r → front ≡ take k r
    → front ++ (get_or r k 0 ∷ []) ≡ take (k + 1) r
then_1 front r k le e =
    let one : k + 1 ≡ suc k = omega arith in
    let lt : k < length r = omega arith in
    rw (one, take-suc r k 0 lt, e) refl

whole : (n : ℕ) (r : List ℕ) → length r ≡ n → take n r ≡ r
whole n r e = subst (λ m. take m r ≡ r) e (take-length r)

pub section_back : SectionIsWritten
section_back Bits32 at r h e =
    let a0 = back_4 r 0 h (omega (arith, e)) in
    let a1 = then_4 _ r 4 h (omega (arith, e)) a0 in
    let a2 = then_4 _ r 8 h (omega (arith, e)) a1 in
    let a3 = then_4 _ r 12 h (omega (arith, e)) a2 in
    let a4 = then_4 _ r 16 h (omega (arith, e)) a3 in
    let a5 = then_4 _ r 20 h (omega (arith, e)) a4 in
    let a6 = then_4 _ r 24 h (omega (arith, e)) a5 in
    let a7 = then_4 _ r 28 h (omega (arith, e)) a6 in
    let a8 = then_4 _ r 32 h (omega (arith, e)) a7 in
    let a9 = then_4 _ r 36 h (omega (arith, e)) a8 in
    a9 ∙ whole 40 r e
section_back Bits64 at r h e =
    let a0 = back_4 r 0 h (omega (arith, e)) in
    let a1 = then_4 _ r 4 h (omega (arith, e)) a0 in
    let a2 = then_8 _ r 8 h (omega (arith, e)) a1 in
    let a3 = then_8 _ r 16 h (omega (arith, e)) a2 in
    let a4 = then_8 _ r 24 h (omega (arith, e)) a3 in
    let a5 = then_8 _ r 32 h (omega (arith, e)) a4 in
    let a6 = then_4 _ r 40 h (omega (arith, e)) a5 in
    let a7 = then_4 _ r 44 h (omega (arith, e)) a6 in
    let a8 = then_8 _ r 48 h (omega (arith, e)) a7 in
    let a9 = then_8 _ r 56 h (omega (arith, e)) a8 in
    a9 ∙ whole 64 r e

pub segment_back : SegmentIsWritten
segment_back Bits32 index size r h e =
    let a0 = back_4 r 0 h (omega (arith, e)) in
    let a1 = then_4 _ r 4 h (omega (arith, e)) a0 in
    let a2 = then_4 _ r 8 h (omega (arith, e)) a1 in
    let a3 = then_4 _ r 12 h (omega (arith, e)) a2 in
    let a4 = then_4 _ r 16 h (omega (arith, e)) a3 in
    let a5 = then_4 _ r 20 h (omega (arith, e)) a4 in
    let a6 = then_4 _ r 24 h (omega (arith, e)) a5 in
    let a7 = then_4 _ r 28 h (omega (arith, e)) a6 in
    a7 ∙ whole 32 r e
segment_back Bits64 index size r h e =
    let a0 = back_4 r 0 h (omega (arith, e)) in
    let a1 = then_4 _ r 4 h (omega (arith, e)) a0 in
    let a2 = then_8 _ r 8 h (omega (arith, e)) a1 in
    let a3 = then_8 _ r 16 h (omega (arith, e)) a2 in
    let a4 = then_8 _ r 24 h (omega (arith, e)) a3 in
    let a5 = then_8 _ r 32 h (omega (arith, e)) a4 in
    let a6 = then_8 _ r 40 h (omega (arith, e)) a5 in
    let a7 = then_8 _ r 48 h (omega (arith, e)) a6 in
    a7 ∙ whole 56 r e

pub symbol_back : SymbolIsWritten
symbol_back Bits32 at r h e =
    let a0 = back_4 r 0 h (omega (arith, e)) in
    let a1 = then_4 _ r 4 h (omega (arith, e)) a0 in
    let a2 = then_4 _ r 8 h (omega (arith, e)) a1 in
    let a3 = then_1 _ r 12 (omega (arith, e)) a2 in
    let a4 = then_1 _ r 13 (omega (arith, e)) a3 in
    let a5 = then_2 _ r 14 h (omega (arith, e)) a4 in
    a5 ∙ whole 16 r e
symbol_back Bits64 at r h e =
    let a0 = back_4 r 0 h (omega (arith, e)) in
    let a1 = then_1 _ r 4 (omega (arith, e)) a0 in
    let a2 = then_1 _ r 5 (omega (arith, e)) a1 in
    let a3 = then_2 _ r 6 h (omega (arith, e)) a2 in
    let a4 = then_8 _ r 8 h (omega (arith, e)) a3 in
    let a5 = then_8 _ r 16 h (omega (arith, e)) a4 in
    a5 ∙ whole 24 r e
