-- A record's header and its epilogues' words, read as they were written.
use mathlib.Core.Path.{◌≡◌, refl, subst, sym, ap, ◌∙◌}
use mathlib.Core.Bool.{Bool, true, false}
use mathlib.Core.List.{List, [], ◌∷◌, ◌++◌}
use Prim.Native.Nat.{ℕ, ◌+◌, ◌*◌, ◌/◌, ◌%◌, ◌^◌, ◌≤◌, ◌<◌}
use native.Mathlib.Omega.{arith}
use lib.Dec.{leb, ltb, eqb}
use lib.ListN.{length, get_or, length-append}
use lib.Seq.{get_or-append-add}
use borrow.Author.Tests.{leb-false, ltb-false, eq-eqb, ne_eqb}
use Rattle.format.specs.Prelude.{pick}
use Rattle.format.specs.Leb.{little}
use Rattle.format.proofs.LebBack.{little-length}
use Rattle.format.proofs.Choice.{decided}
use Rattle.arm64.specs.declared.Epilogues.TheVariants.{Single, Scoped}
use Rattle.arm64.specs.declared.Header.{Header}
use Rattle.arm64.specs.Lists.{Function}
use Rattle.arm64.specs.Records.{word_at, version_of, is_long, header_with, short_header, long_header, header_at}
use Rattle.arm64.specs.Runs.{run_bytes, runs_bytes, backwards, end_byte}
use Rattle.arm64.specs.Writer.{prologue_run, own_of, instructions, single, count_of, words_of, is_long_for, header_word, header_bytes, codes_of}
use Rattle.arm64_back.specs.Back.{BytesAt}
use Rattle.arm64_back.proofs.RunBack.{stands_left, stands_right, stands_inside}
use Rattle.std.proofs.lemmas.Bool.{or_parts}

-- ---- a word

module _ (n : ℕ) {s : List ℕ} {p : ℕ} (t : BytesAt s p (little 4 n)) where
  byte_at : (k : ℕ) → get_or s (p + k) 0 ≡ get_or (little 4 n ++ t.behind) k 0
  byte_at k = (λ i. get_or (t.is i) (t.place i + k) 0) ∙ get_or-append-add t.front (little 4 n ++ t.behind) k 0

  pub word_back : n < 2 ^ 32 → word_at s p ≡ n
  unfolding word_at little
  word_back h =
      let zeroth : p + 0 ≡ p = omega arith in
      let a : get_or s p 0 ≡ n % 256 = ap (λ (k : ℕ). get_or s k 0) (sym zeroth) ∙ byte_at 0 in
      let b : get_or s (p + 1) 0 ≡ n / 256 % 256 = byte_at 1 in
      let c : get_or s (p + 2) 0 ≡ n / 256 / 256 % 256 = byte_at 2 in
      let d : get_or s (p + 3) 0 ≡ n / 256 / 256 / 256 % 256 = byte_at 3 in
      (λ i. a i + 256 * b i + 65536 * c i + 16777216 * d i) ∙ omega arith

-- ---- the header

-- a header by its fields
abbrev pub header : (size : ℕ) → (single : Bool) → (count words past : ℕ) → Header
header size single count words past =
    record { length = size; handler = false; epilogues = pick single (Single count) (Scoped count); words = words; past = past }

header_by : {l l' h e e' c c' w w' : ℕ} (past : ℕ) → l ≡ l' → h ≡ 0 → e ≡ e' → c ≡ c' → w ≡ w'
    → (let x : Header = record { length = l; handler = eqb h 1; epilogues = pick (eqb e 1) (Single c) (Scoped c); words = w; past = past } in x) ≡ header l' (eqb e' 1) c' w' past
header_by past a b c d e = λ i. record { length = a i; handler = eqb (b i) 1; epilogues = pick (eqb (c i) 1) (Single (d i)) (Scoped (d i)); words = e i; past = past }

module _ (l e c w past : ℕ) (length-low : l < 2 ^ 18) (single-low : e ≤ 1) where
  module _ (count_low : c < 32) (words-low : w < 32) where
    abbrev short_word : ℕ
    short_word = l + 2 ^ 21 * e + 2 ^ 22 * c + 2 ^ 27 * w

    short_fields : short_header short_word past ≡ header l (eqb e 1) c w past
    unfolding short_header header_with
    short_fields =
        header_by past (omega arith) (omega arith) (omega arith) (omega arith) (omega arith)

    short_version : version_of short_word ≡ 0
    unfolding version_of
    short_version = omega arith

    short_fits : short_word < 2 ^ 32
    short_fits = omega arith

    is_short : 1 ≤ w → is_long short_word ≡ false
    unfolding is_long
    is_short h = ne_eqb (short_word / 2 ^ 22) 0 λ g. absurd (omega (arith, g, h))

  module _ (count_low : c < 2 ^ 16) (words-low : w < 2 ^ 8) where
    abbrev long_word : ℕ
    long_word = l + 2 ^ 21 * e

    abbrev second_word_lem : ℕ
    second_word_lem = c + 2 ^ 16 * w

    long_fields : long_header long_word second_word_lem past ≡ header l (eqb e 1) c w past
    unfolding long_header header_with
    long_fields = header_by past (omega arith) (omega arith) (omega arith) (omega arith) (omega arith)

    long_version : version_of long_word ≡ 0
    unfolding version_of
    long_version = omega arith

    is_long_lem : is_long long_word ≡ true
    unfolding is_long
    is_long_lem = eq-eqb (long_word / 2 ^ 22) 0 (omega arith)

-- ---- what the questions say of the numbers in a header

pub record Held (f : Function) : Type 0 where
  pub whole : f.size % 4 ≡ 0
  pub long : instructions f.size < 2 ^ 18
  pub count : count_of f < 2 ^ 16
  pub words : words_of f < 2 ^ 8

codes_some : (f : Function) → 1 ≤ length (codes_of f)
unfolding codes_of run_bytes
codes_some f =
    let bs : List ℕ = backwards (prologue_run f) in
    omega (arith, length-append (bs ++ (end_byte ∷ [])) (runs_bytes (own_of f)), length-append bs (end_byte ∷ []))

pub words_some : (f : Function) → 1 ≤ words_of f
unfolding words_of
words_some f = omega (arith, codes_some f)

short_counts : (f : Function) → is_long_for f ≡ false → (count_of f < 32) × (words_of f < 32)
unfolding is_long_for words_of
short_counts f e =
    let p = or_parts (leb 32 (count_of f)) (ltb 124 (length (codes_of f))) e in
    let l : length (codes_of f) ≤ 124 = ltb-false 124 (length (codes_of f)) p.1 in (leb-false 32 (count_of f) p.0, omega (arith, l))

-- the mark E
abbrev pub mark : Function → ℕ
mark f = pick (single f) 1 0

mark_low : (f : Function) → mark f ≤ 1
unfolding pick
mark_low f = decided (single f) (λ t. rw t (omega arith)) λ t. rw t (omega arith)

mark_is : (f : Function) → eqb (mark f) 1 ≡ single f
unfolding pick
mark_is f = decided (single f) (λ t. rw t refl) λ t. rw t refl

-- the header that a function's is read as
abbrev pub header_for : Function → (past : ℕ) → Header
header_for f past = header (instructions f.size) (single f) (count_of f) (words_of f) past

pub record Headed (s : List ℕ) (p : ℕ) (f : Function) : Type 0 where
  pub fields : header_at s p ≡ header_for f (p + length (header_bytes f))
  pub version : version_of (word_at s p) ≡ 0
  pub inside : p + 4 ≤ length s

module _ (f : Function) (h : Held f) (s : List ℕ) (p : ℕ) where
  long_back : is_long_for f ≡ true → BytesAt s p (header_bytes f) → Headed s p f
  unfolding header_bytes header_word header_at pick
  long_back e t =
      let l : ℕ = instructions f.size in
      let w : ℕ = instructions f.size + 2 ^ 21 * mark f in
      let v : ℕ = count_of f + 2 ^ 16 * words_of f in
      let is : header_bytes f ≡ little 4 (instructions f.size + 2 ^ 21 * mark f) ++ little 4 (count_of f + 2 ^ 16 * words_of f) = rw e refl in
      let u : BytesAt s p (little 4 (instructions f.size + 2 ^ 21 * mark f) ++ little 4 (count_of f + 2 ^ 16 * words_of f)) = subst (BytesAt s p) is t in
      let low = mark_low f in
      let first : word_at s p ≡ instructions f.size + 2 ^ 21 * mark f = word_back w (stands_left (little 4 w) (little 4 v) u) (omega (arith, h.long)) in
      let size : length (little 4 (instructions f.size + 2 ^ 21 * mark f)) ≡ 4 = little-length 4 w in
      let size' : length (little 4 (count_of f + 2 ^ 16 * words_of f)) ≡ 4 = little-length 4 v in
      let second : word_at s (p + 4) ≡ count_of f + 2 ^ 16 * words_of f =
      word_back v (subst (λ (n : ℕ). BytesAt s (p + n) (little 4 v)) size (stands_right (little 4 w) (little 4 v) u)) (omega (arith, h.count, h.words)) in
      let eight : length (header_bytes f) ≡ 8 = ap length is ∙ omega (arith, length-append (little 4 w) (little 4 v)) in
      record {
        fields = rw first (rw (is_long_lem l (mark f) (count_of f) (words_of f) (p + 8) h.long low h.count h.words, second)
            (long_fields l (mark f) (count_of f) (words_of f) (p + 8) h.long low h.count h.words))
            ∙ ap (λ (b : Bool). header l b (count_of f) (words_of f) (p + 8)) (mark_is f) ∙ ap (λ (n : ℕ). header_for f (p + n)) (sym eight);
        version = ap version_of first ∙ long_version l (mark f) (count_of f) (words_of f) (p + 8) h.long low h.count h.words;
        inside = omega (arith, stands_inside t);
      }

  short_back : is_long_for f ≡ false → BytesAt s p (header_bytes f) → Headed s p f
  unfolding header_bytes header_word header_at pick
  short_back e t =
      let l : ℕ = instructions f.size in
      let w : ℕ = instructions f.size + 2 ^ 21 * mark f + 2 ^ 22 * count_of f + 2 ^ 27 * words_of f in
      let is : header_bytes f ≡ little 4 (instructions f.size + 2 ^ 21 * mark f + 2 ^ 22 * count_of f + 2 ^ 27 * words_of f) = rw e refl in
      let u : BytesAt s p (little 4 (instructions f.size + 2 ^ 21 * mark f + 2 ^ 22 * count_of f + 2 ^ 27 * words_of f)) = subst (BytesAt s p) is t in
      let low = mark_low f in
      let few = short_counts f e in
      let first : word_at s p ≡ instructions f.size + 2 ^ 21 * mark f + 2 ^ 22 * count_of f + 2 ^ 27 * words_of f =
      word_back w u (short_fits l (mark f) (count_of f) (words_of f) (p + 4) h.long low few.0 few.1) in
      let four : length (header_bytes f) ≡ 4 = ap length is ∙ little-length 4 w in
      record {
        fields = rw first (rw (is_short l (mark f) (count_of f) (words_of f) (p + 4) h.long low few.0 few.1 (words_some f))
            (short_fields l (mark f) (count_of f) (words_of f) (p + 4) h.long low few.0 few.1))
            ∙ ap (λ (b : Bool). header l b (count_of f) (words_of f) (p + 4)) (mark_is f) ∙ ap (λ (n : ℕ). header_for f (p + n)) (sym four);
        version = ap version_of first ∙ short_version l (mark f) (count_of f) (words_of f) (p + 4) h.long low few.0 few.1;
        inside = omega (arith, stands_inside t);
      }

  -- A header, of either form, with anything in front and behind, is read as its fields.
  pub header_back : BytesAt s p (header_bytes f) → Headed s p f
  header_back t = decided (is_long_for f) (λ e. long_back e t) λ e. short_back e t
