-- The header by its numbers is the function's, its two forms, and padding.
use mathlib.Core.Path.{◌≡◌, refl, subst, sym, ap, ◌∙◌}
use mathlib.Core.Bool.{Bool, true, false, ◌||◌}
use mathlib.Core.List.{List, ◌++◌}
use Prim.Native.Nat.{ℕ, zero, suc, ◌+◌, ◌*◌, ◌/◌, ◌^◌, ◌≤◌, ◌<◌}
use native.Mathlib.Omega.{arith}
use lib.Dec.{leb, ltb}
use lib.ListN.{length, replicate, length-append}
use borrow.Author.Tests.{le-leb, lt-leb, lt-ltb, le-ltb}
use Rattle.format.specs.Prelude.{pick}
use Rattle.format.specs.Leb.{little}
use Rattle.format.proofs.Choice.{either}
use Rattle.format.proofs.LebBack.{little-length}
use Rattle.format.proofs.PutLaws.{◌then◌}
use Rattle.format.proofs.Wrote.{Wrote}
use Rattle.arm64.specs.Lists.{Function}
use Rattle.arm64.specs.Writer.{codes_of, instructions, single, count_of, words_of, is_long_for, header_word, header_bytes, nop_byte}
use Rattle.arm64_header.specs.Header.{is_long_of, first_word, header_of}

-- ---- as the definitions have it

words_long : (n : ℕ) → ltb 31 ((n + 3) / 4) ≡ ltb 124 n
words_long n =
    either n 124 (λ h. le-ltb 31 ((n + 3) / 4) (omega (arith, h)) ∙ sym (le-ltb 124 n h))
    (λ h. lt-ltb 31 ((n + 3) / 4) (omega (arith, h)) ∙ sym (lt-ltb 124 n h))

pub long_is : (f : Function) → is_long_of (count_of f) (words_of f) ≡ is_long_for f
unfolding is_long_of is_long_for words_of
long_is f = ap (λ b. leb 32 (count_of f) || b) (words_long (length (codes_of f)))

pub header_is : (f : Function) → header_of (instructions f.size) (single f) (count_of f) (words_of f) ≡ header_bytes f
unfolding header_of header_bytes header_word first_word
header_is f =
    ap
    (λ b. pick b (little 4 (header_word f) ++ little 4 (count_of f + 2 ^ 16 * words_of f)) (little 4 (header_word f + 2 ^ 22 * count_of f + 2 ^ 27 * words_of f)))
    (long_is f)

-- ---- the tests

pub many_long : (count words : ℕ) → 31 < count → true ≡ is_long_of count words
unfolding is_long_of
many_long count words h = simp (le-leb 32 count (omega (arith, h)))

pub few_long : (count words : ℕ) → count ≤ 31 → ltb 31 words ≡ is_long_of count words
unfolding is_long_of
few_long count words h = simp (lt-leb 32 count (omega (arith, h)))

pub first_single : (size : ℕ) → size + 2097152 ≡ first_word size true
unfolding first_word pick
first_single size = omega arith

pub first_plain : (size : ℕ) → size ≡ first_word size false
unfolding first_word pick
first_plain size = omega arith

-- ---- the two forms

module _ (size : ℕ) (single : Bool) (count words : ℕ) where
  pub long_form : is_long_of count words ≡ true
      → header_of size single count words ≡ little 4 (first_word size single) ++ little 4 (count + 65536 * words)
  unfolding header_of pick
  long_form e = simp e

  pub short_form : is_long_of count words ≡ false
      → header_of size single count words ≡ little 4 (first_word size single + 4194304 * count + 134217728 * words)
  unfolding header_of pick
  short_form e = simp e

  pub long_size : is_long_of count words ≡ true → length (header_of size single count words) ≡ 8
  long_size e =
      ap length (long_form e) ∙ length-append (little 4 (first_word size single)) (little 4 (count + 65536 * words))
      ∙ rw (little-length 4 (first_word size single), little-length 4 (count + 65536 * words)) refl

  pub short_size : is_long_of count words ≡ false → length (header_of size single count words) ≡ 4
  short_size e = ap length (short_form e) ∙ little-length 4 (first_word size single + 4194304 * count + 134217728 * words)

  -- by the test, the first word and the count as the code has them
  module _ {b : Bool} (h : b ≡ is_long_of count words) {first n : ℕ} (g : first ≡ first_word size single) (k : n ≡ count) {xs ys : List ℕ} {at a : ℕ} where
    pub wrote_long : {zs : List ℕ} {r : ℕ} → b ≡ true → Wrote xs ys at a (little 4 first) → Wrote ys zs a r (little 4 (n + 65536 * words))
        → Wrote xs zs at r (header_of size single count words)
    wrote_long {zs} {r} e v w =
        rw (long_form (sym h ∙ e))
        (subst (λ (i : ℕ). Wrote xs ys at a (little 4 i)) g v then subst (λ (i : ℕ). Wrote ys zs a r (little 4 (i + 65536 * words))) k w)

    pub wrote_short : b ≡ false → Wrote xs ys at a (little 4 (first + 4194304 * n + 134217728 * words))
        → Wrote xs ys at a (header_of size single count words)
    wrote_short e v =
        rw (short_form (sym h ∙ e))
        (subst (λ (i : ℕ). Wrote xs ys at a (little 4 (first_word size single + 4194304 * i + 134217728 * words))) k
        (subst (λ (i : ℕ). Wrote xs ys at a (little 4 (i + 4194304 * n + 134217728 * words))) g v))

-- ---- padding

pub nops : (n : ℕ) → n ≤ 3 → little n 0xe3e3e3 ≡ replicate n nop_byte
unfolding little
nops zero h = refl
nops (suc zero) h = refl
nops (suc (suc zero)) h = refl
nops (suc (suc (suc zero))) h = refl
nops (suc (suc (suc (suc n)))) h = absurd (omega (arith, h))
