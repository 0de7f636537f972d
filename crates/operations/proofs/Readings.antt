-- What the readers of LEB numbers make of the bytes that last_byte found.
use mathlib.Core.Path.{◌≡◌, refl}
use mathlib.Core.Bool.{Bool, true, false, and-true}
use mathlib.Core.Logic.{◌≢◌, ◌⊎◌, inl, inr}
use mathlib.Core.Option.{none, some}
use mathlib.Core.List.{List, [], ◌∷◌}
use Prim.Native.Nat.{ℕ, suc, ◌+◌, ◌-◌, ◌*◌, ◌^◌, ◌≤◌, ◌<◌}
use native.Mathlib.Nat.{mul-le-mul_right}
use native.Mathlib.Omega.{arith}
use lib.Arith.{digits_lt}
use lib.Dec.{ltb, eqb}
use lib.IntN.{ℤ}
use mir.Syntax.{w64}
use mir.Val.{of_z, to_z}
use mir.Facts.{to_z-of_z}
use lib.ListN.{length, drop, length-drop}
use Rattle.std.specs.Prelude.{Option, Some, None}
use Rattle.format.specs.Prelude.{next}
use Rattle.format.specs.Leb.{uleb, sleb, read_uleb_f, read_uleb, last7, read_sleb_f, fits64, read_sleb}
use Rattle.format.specs.Shortest.{unsigned, signed as signedNumber, shortest, read_mark, marked, numbers_short}
use Rattle.operations.specs.declared.fields.Position.{Position}
use Rattle.operations.specs.Positions.{past, read_from, uleb_at, sleb_at}
use Rattle.format.proofs.Choice.{if-le, if-gt, either}
use Rattle.operations.specs.Signs.{signed, spelled_to, held, under}
use Rattle.operations.specs.Groups.{Found}
use Rattle.operations.proofs.PositionLaws.{past_drop}
use Rattle.operations.proofs.Signs.{signed_fits}
use Rattle.operations.proofs.GroupLoop.{scale_below, scale_full}

-- ---- a group on top of k others

module _ (k scale top low : ℕ) (e : scale ≡ 128 ^ k) (l : low < scale) where
  fits_below : k < 9 → top < 128 → top * scale + low < 2 ^ 63
  fits_below h m = omega (arith, digits_lt {q = top} {m = 128} {r = low} {c = scale} m l, scale_below k scale e h)

  fits_tenth : (most : ℕ) → k ≡ 9 → top < most → top * scale + low < most * 2 ^ 63
  fits_tenth most h m = rw (← scale_full k scale e h) (digits_lt {q = top} {m = most} {r = low} {c = scale} m l)

  -- the tenth group holds less
  pub fits : (most : ℕ) → 0 < most → k ≤ 9 → top < 128 → ((k ≡ 9) × (top < most)) ⊎ (k ≢ 9) → top * scale + low < most * 2 ^ 63
  fits most o h m (inl t) = fits_tenth most t.0 t.1
  fits most o h m (inr n) = omega (arith, fits_below (omega (arith, n)) m)

  pub past_tenth : (least : ℕ) → k ≡ 9 → least ≤ top → least * 2 ^ 63 ≤ top * scale + low
  past_tenth least h m = rw (← scale_full k scale e h) (omega (arith, mul-le-mul_right {m = least} {n = top} scale m))

-- ---- unsigned

taken-drop : (s : List ℕ) (p q : ℕ) → p ≤ q → q ≤ length s → length (drop p s) - length (drop q s) ≡ q - p
taken-drop s p q l h = omega (arith, length-drop p s, length-drop q s)

-- the mark of a number that was read
module _ (s : List ℕ) (p q : ℕ) (l : p ≤ q) (h : q ≤ length s) where
  unsigned_short : {v : ℕ} → read_uleb (drop p s) ≡ some (v, drop q s) → numbers_short (unsigned ∷ []) (drop p s) ≡ eqb (q - p) (length (uleb v))
  unfolding numbers_short marked read_mark shortest next
  unsigned_short {v} e = rw (e, taken-drop s p q l h) (and-true (eqb (q - p) (length (uleb v))))

  signed_short : {z : ℤ} → read_sleb (drop p s) ≡ some (z, drop q s) → numbers_short (signedNumber ∷ []) (drop p s) ≡ eqb (q - p) (length (sleb z))
  unfolding numbers_short marked read_mark shortest next
  signed_short {z} e = rw (e, taken-drop s p q l h) (and-true (eqb (q - p) (length (sleb z))))

pub uleb_missing : (s : List ℕ) (p : Position) → read_uleb_f 10 (drop p.at s) ≡ none → None ≡ uleb_at s p
unfolding uleb_at read_uleb next read_from
uleb_missing s p e = rw e

pub uleb_fits : {s : List ℕ} {p b k scale acc q : ℕ} → Found s p b k scale acc q → ((k ≡ 9) × (b < 2)) ⊎ (k ≢ 9) → b * scale + acc < 2 ^ 64
uleb_fits {b = b} {k} {scale} {acc} c t = fits k scale b acc c.scaled c.below 2 (omega arith) c.few c.last t

module _ {s : List ℕ} (p : Position) {b k scale acc q : ℕ} (c : Found s p.at b k scale acc q) where
  uleb_read : b * scale + acc < 2 ^ 64 → read_uleb (drop p.at s) ≡ some (b * scale + acc, drop q s)
  unfolding read_uleb next
  uleb_read h = rw (c.unsigned, if-le (suc (b * scale + acc)) (2 ^ 64))

  pub uleb_value : b * scale + acc < 2 ^ 64
      → Some (b * scale + acc, past p (eqb (q - p.at) (length (uleb (b * scale + acc)))) q) ≡ uleb_at s p
  unfolding uleb_at read_from
  uleb_value h =
      let e = uleb_read h in
      rw (unsigned_short s p.at q (omega (arith, c.ahead)) c.inside e, e, past_drop s q c.inside)

  pub uleb_over : k ≡ 9 → 2 ≤ b → None ≡ uleb_at s p
  unfolding uleb_at read_uleb next read_from
  uleb_over h l =
      let m : 2 ^ 64 < suc (b * scale + acc) = omega (arith, past_tenth k scale b acc c.scaled c.below 2 h l) in
      rw (c.unsigned, if-gt (suc (b * scale + acc)) (2 ^ 64))

-- ---- signed

pub sleb_missing : (s : List ℕ) (p : Position) → read_sleb_f 10 (drop p.at s) ≡ none → None ≡ sleb_at s p
unfolding sleb_at read_sleb next read_from
sleb_missing s p e = rw e

module _ (neg : Bool) (n : ℕ) (p : Position) (q : ℕ) where
  pub held_over : 2 ^ 63 ≤ n → None ≡ held neg n p q
  unfolding held
  held_over h = let m : 2 ^ 63 < suc n = omega arith in rw (if-gt (suc n) (2 ^ 63))

  pub held_value : {z : ℤ} → z ≡ signed neg n → n < 2 ^ 63 → spelled_to (to_z w64 (of_z w64 z)) p q ≡ held neg n p q
  unfolding held
  held_value e h = rw (e, to_z-of_z (signed_fits neg n h), if-le (suc n) (2 ^ 63))

fits_by_sign : (neg : Bool) (n : ℕ) → fits64 (signed neg n) ≡ ltb n (2 ^ 63)
unfolding fits64 signed
fits_by_sign false n = refl
fits_by_sign true n = refl

-- the last byte tells the sign
low_group : (scale acc b : ℕ) → b < 64 → under scale acc (last7 b) ≡ signed false (b * scale + acc)
unfolding under last7 signed
low_group scale acc b h = rw (if-le (suc b) 64)

high_group : (scale acc b : ℕ) → 64 ≤ b → under scale acc (last7 b) ≡ signed true ((127 - b) * scale + (scale - 1 - acc))
unfolding under last7 signed
high_group scale acc b h = let m : 64 < suc b = omega arith in rw (if-gt (suc b) 64)

module _ {s : List ℕ} (p : Position) {b k scale acc q : ℕ} (c : Found s p.at b k scale acc q) where
  module _ (neg : Bool) (n : ℕ) (e : under scale acc (last7 b) ≡ signed neg n) where
    sleb_read : n < 2 ^ 63 → read_sleb (drop p.at s) ≡ some (signed neg n, drop q s)
    unfolding read_sleb next
    sleb_read l = rw (c.signed, e, fits_by_sign neg n, if-le (suc n) (2 ^ 63))

    sleb_over : 2 ^ 63 ≤ n → read_sleb (drop p.at s) ≡ none
    unfolding read_sleb next
    sleb_over l = let m : 2 ^ 63 < suc n = omega arith in rw (c.signed, e, fits_by_sign neg n, if-gt (suc n) (2 ^ 63))

    sleb_held : held neg n p q ≡ sleb_at s p
    unfolding held sleb_at read_from spelled_to
    sleb_held =
        either (suc n) (2 ^ 63)
        (λ l.
        let r = sleb_read (omega arith) in
        rw (if-le {X = Option (ℤ × Position)} (suc n) (2 ^ 63) (Some (signed neg n, past p (eqb (q - p.at) (length (sleb (signed neg n)))) q)), signed_short s p.at q (omega (arith, c.ahead)) c.inside r, r, past_drop s q c.inside))
        (λ g. rw (if-gt {X = Option (ℤ × Position)} (suc n) (2 ^ 63) (Some (signed neg n, past p (eqb (q - p.at) (length (sleb (signed neg n)))) q)), sleb_over (omega arith)))

  pub sleb_plain : b < 64 → held false (b * scale + acc) p q ≡ sleb_at s p
  sleb_plain h = sleb_held false (b * scale + acc) (low_group scale acc b h)

  pub sleb_turned : 64 ≤ b → held true ((127 - b) * scale + (scale - 1 - acc)) p q ≡ sleb_at s p
  sleb_turned h = sleb_held true ((127 - b) * scale + (scale - 1 - acc)) (high_group scale acc b h)
