-- The size of a row's operation out of the row's numbers, where the register has a byte at most and the second operand two.
use mathlib.Core.Path.{◌≡◌, refl, sym, ap, subst, ◌∙◌}
use mathlib.Core.List.{List, [], ◌∷◌}
use Prim.Native.Nat.{ℕ, zero, suc, ◌+◌, ◌-◌, ◌*◌, ◌/◌, ◌%◌, ◌^◌, ◌≤◌, ◌<◌}
use native.Mathlib.Omega.{arith}
use native.Mathlib.Nat.{div-add-mod', mul-le-mul_right, mod-lt, div-le_self, zero-mul}
use lib.Dec.{T, leb, ltb, ltb→lt}
use lib.IntN.{pos, neg_ℤ}
use lib.ListN.{length, length-append}
use mir.Syntax.{w32}
use mir.Val.{to_z}
use Rattle.format.specs.Prelude.{pick}
use Rattle.format.specs.Leb.{uleb}
use Rattle.format.specs.Lists.{row_of, row_ok, has_register, has_offset, second_operands}
use Rattle.format.specs.Rows.{factor, cfa_bytes, saved_bytes, row_bytes}
use Rattle.format.proofs.Choice.{if-le, if-gt, either}
use Rattle.format.proofs.LebSteps.{uleb_last, uleb_more}
use Rattle.format.proofs.ListLaws.{chained, row_numbers}
use Rattle.rows.specs.Sizes.{short_size, scaled, second_byte}
use Rattle.rows.proofs.Bytes.{register_in}
use Rattle.rows.proofs.WholeNumbers.{low_is, high_is}
use Rattle.rows.proofs.Numbers.{bytes_0, bytes_1, bytes_2, bytes_3, bytes_4, bytes_5, bytes_6, bytes_7, bytes_9, bytes_10}

-- ---- numbers

pub uleb_one : (n : ℕ) → n < 128 → length (uleb n) ≡ 1
uleb_one n h = ap length (uleb_last n h)

uleb_two : (n : ℕ) → 128 ≤ n → n < 16384 → length (uleb n) ≡ 2
uleb_two n g h = rw (uleb_more n g (omega arith), uleb_last (n / 128) (omega arith))

-- n is y by the word
module _ (w y n : ℕ) (lo : n * w ≤ y) (hi : y < n * w + w) where
  uleb_size : y < 16384 * w → length (uleb n) ≡ 1 + second_byte w y
  unfolding second_byte
  uleb_size h =
      either n 127 (λ l. let a : n * w ≤ 127 * w = mul-le-mul_right w l in
      let b : suc y ≤ 128 * w = omega arith in
      rw (uleb_one n (omega arith), if-le {X = ℕ} (suc y) (128 * w) 0 1 b))
      (λ g. let a : 128 * w ≤ n * w = mul-le-mul_right w g in
      let b : 128 * w < suc y = omega arith in
      let c : n < 16384 = either n 16383 (λ l. omega arith) (λ k. let d : 16384 * w ≤ n * w = mul-le-mul_right w k in absurd (omega arith)) in
      rw (uleb_two n g c, if-gt {X = ℕ} (suc y) (128 * w) 0 1 b))

-- a plain operand
plain_size : (w off : ℕ) → 0 < w → off * w < 16384 * w → length (uleb off) ≡ 1 + second_byte w (off * w)
plain_size w off p h = uleb_size w (off * w) off (omega arith) (omega arith) h

plain_low : (w off : ℕ) → off * w < 16384 * w → off < 16384
plain_low w off h =
    either off 16383 (λ l. omega arith) (λ k. let d : 16384 * w ≤ off * w = mul-le-mul_right w k in absurd (omega arith))

-- an operand that is not there
no_second : (kind reg off : ℕ) → second_operands kind ≡ 1 → T (row_ok kind reg off) → off ≡ 0
unfolding row_ok
no_second kind reg off e t =
    let s : T (ltb off (second_operands kind)) = chained (leb kind 10) (ltb reg (pick (has_register kind) 65536 1) ∷ ltb off (second_operands kind) ∷ []) 2 t in
    let l : T (ltb off 1) = subst (λ (n : ℕ). T (ltb off n)) e s in
    omega (arith, ltb→lt off 1 l)

no_byte : (w kind reg off : ℕ) → 2 ≤ w → second_operands kind ≡ 1 → T (row_ok kind reg off) → second_byte w (off * w) ≡ 0
unfolding second_byte
no_byte w kind reg off lo e t =
    let z : off * w ≡ 0 = ap (λ (n : ℕ). n * w) (no_second kind reg off e t) ∙ zero-mul w in
    if-le {X = ℕ} (suc (off * w)) (128 * w) 0 1 (omega arith)

-- ---- operations

-- of a frame address
cfa_size : (w p s off : ℕ) (reg : List ℕ) → 0 < w → off * w < 16384 * w → length (cfa_bytes w p s reg (to_z w32 off)) ≡ 2 + length reg + second_byte w (off * w)
unfolding cfa_bytes
cfa_size w p s off reg z h =
    rw (low_is off (omega (arith, plain_low w off h)), length-append, plain_size w off z h) (omega arith)

-- of a saved register
module _ (w reg off : ℕ) (lo : 2 ≤ w) (r : reg ≤ 63) where
  unsigned_size : (y : ℕ) → y < 16384 * w → length (saved_bytes reg (pos (y / w))) ≡ 2 + second_byte w y
  unfolding saved_bytes
  unsigned_size y h =
      let e = div-add-mod' y w in
      let m : y % w < w = mod-lt y (omega arith) in
      rw (register_in 0x80 0x05 reg (uleb (y / w)) r, uleb_size w y (y / w) (omega arith) (omega arith) h) (omega arith)

  saved_size : w ≤ 8 → off < 2 ^ 32 → (2 ^ 32 - off) % 2 ^ 32 < 16384 * w → length (saved_bytes reg (factor w (to_z w32 off))) ≡ 2 + second_byte w ((2 ^ 32 - off) % 2 ^ 32)
  unfolding factor
  saved_size hi f h =
      either off 0 (λ z.
      let e : off ≡ 0 = omega arith in
      let y : (2 ^ 32 - off) % 2 ^ 32 ≡ 0 = omega arith in
      let d : 0 / w ≡ 0 = omega (arith, div-le_self 0 w) in
      let u : length (saved_bytes reg (pos 0)) ≡ 2 + second_byte w 0 = subst (λ (n : ℕ). length (saved_bytes reg (pos n)) ≡ 2 + second_byte w 0) d (unsigned_size 0 (omega arith)) in
      let s : factor w (to_z w32 off) ≡ pos 0 = ap (λ (n : ℕ). factor w (to_z w32 n)) e ∙ ap (factor w) (low_is 0 (omega arith)) ∙ ap (λ (n : ℕ). neg_ℤ (pos n)) d in
      rw (y, s) u)
      (λ p. either off 2147483647 (λ l. let y : (2 ^ 32 - off) % 2 ^ 32 ≡ 2 ^ 32 - off = omega arith in absurd (omega arith))
      (λ g.
      let y : (2 ^ 32 - off) % 2 ^ 32 ≡ 2 ^ 32 - off = omega arith in
      let e : suc (4294967295 - off) ≡ 2 ^ 32 - off = omega arith in
      rw (y, high_is off g f, e) (unsigned_size (2 ^ 32 - off) (omega arith))))

-- ---- kinds

kinds : (P : ℕ → Type 0) → P 0 → P 1 → P 2 → P 3 → P 4 → P 5 → P 6 → P 7 → P 8 → P 9 → P 10 → (k : ℕ) → k ≤ 10 → P k
kinds P p0 p1 p2 p3 p4 p5 p6 p7 p8 p9 p10 zero h = p0
kinds P p0 p1 p2 p3 p4 p5 p6 p7 p8 p9 p10 (suc zero) h = p1
kinds P p0 p1 p2 p3 p4 p5 p6 p7 p8 p9 p10 (suc (suc zero)) h = p2
kinds P p0 p1 p2 p3 p4 p5 p6 p7 p8 p9 p10 (suc (suc (suc zero))) h = p3
kinds P p0 p1 p2 p3 p4 p5 p6 p7 p8 p9 p10 (suc (suc (suc (suc zero)))) h = p4
kinds P p0 p1 p2 p3 p4 p5 p6 p7 p8 p9 p10 (suc (suc (suc (suc (suc zero))))) h = p5
kinds P p0 p1 p2 p3 p4 p5 p6 p7 p8 p9 p10 (suc (suc (suc (suc (suc (suc zero)))))) h = p6
kinds P p0 p1 p2 p3 p4 p5 p6 p7 p8 p9 p10 (suc (suc (suc (suc (suc (suc (suc zero))))))) h = p7
kinds P p0 p1 p2 p3 p4 p5 p6 p7 p8 p9 p10 (suc (suc (suc (suc (suc (suc (suc (suc zero)))))))) h = p8
kinds P p0 p1 p2 p3 p4 p5 p6 p7 p8 p9 p10 (suc (suc (suc (suc (suc (suc (suc (suc (suc zero))))))))) h = p9
kinds P p0 p1 p2 p3 p4 p5 p6 p7 p8 p9 p10 (suc (suc (suc (suc (suc (suc (suc (suc (suc (suc zero)))))))))) h = p10
kinds P p0 p1 p2 p3 p4 p5 p6 p7 p8 p9 p10 (suc (suc (suc (suc (suc (suc (suc (suc (suc (suc (suc k))))))))))) h = absurd (omega arith)

-- a row is sized by its numbers
Sized : (w reg off kind : ℕ) → Type 0
Sized w reg off kind =
    T (row_ok kind reg off) → scaled w kind off < 16384 * w → length (row_bytes w (row_of kind reg off)) ≡ short_size kind + second_byte w (scaled w kind off)

module _ (w reg off : ℕ) (lo : 2 ≤ w) (hi : w ≤ 8) (r : reg ≤ 63) where
  one : length (uleb reg) ≡ 1
  one = uleb_one reg (omega arith)

  sized_0 : Sized w reg off 0
  unfolding Sized scaled short_size pick
  sized_0 t h = rw (bytes_0 w reg off {kind = 0} refl, cfa_size w 0x0c 0x12 off (uleb reg) (omega arith) h, one)

  sized_1 : Sized w reg off 1
  unfolding Sized scaled short_size pick
  sized_1 t h = rw (bytes_1 w reg off {kind = 1} refl, cfa_size w 0x0e 0x13 off [] (omega arith) h)

  sized_3 : Sized w reg off 3
  unfolding Sized scaled short_size pick
  sized_3 t h = rw (bytes_3 w reg off {kind = 3} refl) (saved_size w reg off lo r hi (row_numbers 3 reg off t).off_low h)

  sized_10 : Sized w reg off 10
  unfolding Sized scaled short_size pick
  sized_10 t h = rw (bytes_10 w reg off {kind = 10} refl, length-append, one, plain_size w off (omega arith) h) (omega arith)

  sized_2 : Sized w reg off 2
  unfolding Sized scaled short_size pick second_operands has_offset
  sized_2 t h = rw (bytes_2 w reg off {kind = 2} refl, one, no_byte w 2 reg off lo refl t)

  sized_5 : Sized w reg off 5
  unfolding Sized scaled short_size pick second_operands has_offset
  sized_5 t h = rw (bytes_5 w reg off {kind = 5} refl, one, no_byte w 5 reg off lo refl t)

  sized_9 : Sized w reg off 9
  unfolding Sized scaled short_size pick second_operands has_offset
  sized_9 t h = rw (bytes_9 w reg off {kind = 9} refl, one, no_byte w 9 reg off lo refl t)

  sized_4 : Sized w reg off 4
  unfolding Sized scaled short_size pick second_operands has_offset
  sized_4 t h = rw (bytes_4 w reg off {kind = 4} refl, register_in 0xc0 0x06 reg [] r, no_byte w 4 reg off lo refl t)

  sized_6 : Sized w reg off 6
  unfolding Sized scaled short_size pick second_operands has_offset
  sized_6 t h = rw (bytes_6 w reg off {kind = 6} refl, no_byte w 6 reg off lo refl t)

  sized_7 : Sized w reg off 7
  unfolding Sized scaled short_size pick second_operands has_offset
  sized_7 t h = rw (bytes_7 w reg off {kind = 7} refl, no_byte w 7 reg off lo refl t)

  sized_8 : Sized w reg off 8
  unfolding Sized scaled short_size pick second_operands has_offset row_bytes row_of
  sized_8 t h = rw (no_byte w 8 reg off lo refl t)

  pub sized : (kind : ℕ) → T (row_ok kind reg off) → {y a b : ℕ} → y ≡ scaled w kind off → y < 16384 * w → a ≡ short_size kind → b ≡ second_byte w y
      → a + b ≡ length (row_bytes w (row_of kind reg off))
  unfolding Sized
  sized kind t {y} e h p q =
      let s = kinds (Sized w reg off) sized_0 sized_1 sized_2 sized_3 sized_4 sized_5 sized_6 sized_7 sized_8 sized_9 sized_10 kind (row_numbers kind reg off t).kind_low in
      rw (p, q, e) (sym (s t (rw (← e) h)))
