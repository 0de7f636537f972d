-- A function's record by its parts is the function's, and what its writers know.
use mathlib.Core.Path.{◌≡◌, refl, subst, sym, ap, ◌∙◌}
use mathlib.Core.Bool.{Bool, true, false, ◌&&◌, and-true, and-false, false≢true}
use mathlib.Core.List.{List, [], ◌++◌}
use Prim.Native.Nat.{ℕ, zero, suc, ◌+◌, ◌-◌, ◌*◌, ◌/◌, ◌^◌, ◌≤◌, ◌<◌}
use native.Mathlib.Omega.{arith}
use lib.Dec.{leb, ltb, eqb}
use lib.ListN.{length, replicate, length-append, length-replicate}
use borrow.Author.Tests.{leb-true, le-leb, lt-leb, ltb-true, eq-eqb, ne_eqb, eqb-true}
use Rattle.format.specs.Prelude.{pick, each}
use Rattle.format.specs.Leb.{little}
use Rattle.format.specs.Lists.{all_in, field}
use Rattle.format.proofs.Wrote.{Wrote}
use Rattle.format.proofs.PutLaws.{kept}
use Rattle.format.proofs.ListLaws.{each-length}
use Rattle.format.proofs.Choice.{some_picked, none_picked}
use Rattle.arm64.specs.Lists.{Function, function_stride, epilogue_stride, numbered_epilogue, numbered_function}
use Rattle.arm64.specs.Runs.{no_pair, backwards, leads, run_fits}
use Rattle.arm64.specs.Writer.{codes_of, instructions, ends_with, only_one, single, first_index, count_of, words_of, header_bytes, scope_bytes, scopes_of, record_bytes, info_of, is_packed, nop_byte}
use Rattle.arm64_simple.specs.Saves.{saves}
use Rattle.arm64.specs.Records.{only_in, count_in}
use Rattle.arm64_header.specs.declared.Header.{Header}
use Rattle.arm64_header.specs.Header.{header_of, header_by}
use Rattle.arm64.specs.declared.Epilogues.TheVariants.{Single, Scoped}
use Rattle.arm64_header.proofs.Forms.{header_is}
use Rattle.arm64_function.specs.declared.Parts.{Parts}
use Rattle.arm64_function.specs.declared.Shape.{Shape}
use Rattle.arm64_function.specs.Listed.{Fine}
use Rattle.arm64_function.specs.Own.{parts_at, prologue_in, run_at, codes_in, index_at, word_at, words_from, parts_ok, fits_at, held_to, most_codes}
use Rattle.arm64_function.specs.Record.{Whole, single_at, count_at, words_at, Shaped, scopes_at, record_at}
use Rattle.std.specs.Prelude.{Option, Some, None}
use Rattle.std.specs.Option.{is_some}
use Rattle.std.proofs.lemmas.Bool.{and_parts}
use Rattle.arm64_function.proofs.Given.{epilogues_same, codes_same, index_same, ready}
use Rattle.arm64_function.proofs.Own.{searching_start, searching_ended}
use Rattle.arm64_function.proofs.Indexes.{ahead_start, index_own, index_low}
use Rattle.arm64_function.proofs.Scopes.{words_length}
use Rattle.arm64_function.proofs.PackedWord.{ends_same, only_one_lem, only_other, fitted, size_short, start_low, values}

no_pick : (X : Type 0) (x y : X) → pick false x y ≡ y
unfolding pick
no_pick X x y = refl

yes_pick : {X : Type 0} (x y : X) → pick true x y ≡ x
unfolding pick
yes_pick x y = refl

-- ---- what the questions have answered

pub whole : {fs es cs : List ℕ} {k : ℕ} → Fine fs es cs k → length cs * 8 < 2 ^ 63 → Whole es cs (parts_at fs k) (field function_stride fs k 1)
unfolding parts_ok instructions
whole {fs} {es} {cs} {k} h short =
    let p = parts_at fs k in
    let n = p.end - p.first in
    let a = and_parts
    (run_fits no_pair (saves cs p.prologue) && all_in (fits_at es cs) p.first n && ltb n 65536)
    (leb (length (codes_in es cs p)) most_codes) (values h) in
    let b = and_parts (run_fits no_pair (saves cs p.prologue) && all_in (fits_at es cs) p.first n) (ltb n 65536) a.0 in
    record {
      ready = ready h.listed short;
      fitted = fitted h;
      started = record { starts = λ i l g. let z = start_low h i l g in let y = size_short h in omega (arith, z, y) };
      starts = start_low h;
      short = size_short h;
      few = ltb-true n 65536 b.1;
      small = leb-true (length (codes_in es cs p)) most_codes a.1;
    }

-- ---- the only epilogue

pub index_only : (es cs : List ℕ) (p : Parts) {n : ℕ} → p.end - p.first ≡ 1 → leads (run_at es cs p.first) (prologue_in cs p) ≡ false
    → n ≡ length (backwards (prologue_in cs p)) → n + 1 ≡ index_at es cs p p.first
index_only es cs p {n} one e s =
    index_own (ahead_start s) (omega arith) (omega (arith, one)) (searching_ended (searching_start (omega arith)) (omega arith)) e (omega arith)

module _ (es cs : List ℕ) (p : Parts) (size : ℕ) where
  pub single_many : (p.end - p.first ≡ 1 → ⊥) → false ≡ single_at es cs p size
  unfolding single_at
  single_many h = simp (ne_eqb (p.end - p.first) 1 h)

  module _ {codes : ℕ} (g : codes ≡ length (codes_in es cs p)) where
    pub single_long : 124 < codes → false ≡ single_at es cs p size
    unfolding single_at
    single_long h = simp (lt-leb (length (codes_in es cs p)) 124 (omega (arith, g, h)), and-false)

    module _ (one : p.end - p.first ≡ 1) (h : codes ≤ 124) {i : ℕ} (e : i ≡ index_at es cs p p.first) where
      pub single_far : 31 < i → false ≡ single_at es cs p size
      unfolding single_at
      single_far l = simp (lt-leb (index_at es cs p p.first) 31 (omega (arith, e, l)), and-false)

      pub single_ends : i ≤ 31 → eqb (instructions (size - field epilogue_stride es p.first 0)) (field epilogue_stride es p.first 2 + 1) ≡ single_at es cs p size
      unfolding single_at
      single_ends l =
          simp (eq-eqb (p.end - p.first) 1 one, le-leb (index_at es cs p p.first) 31 (omega (arith, e, l)), le-leb (length (codes_in es cs p)) 124 (omega (arith, g, h)), and-true)

  pub single_one : single_at es cs p size ≡ true → p.end - p.first ≡ 1
  unfolding single_at
  single_one e =
      eqb-true (p.end - p.first) 1
      (and_parts (eqb (p.end - p.first) 1) (eqb (instructions (size - field epilogue_stride es p.first 0)) (field epilogue_stride es p.first 2 + 1)
      && leb (index_at es cs p p.first) 31 && leb (length (codes_in es cs p)) 124) e).0

module _ {es cs : List ℕ} {p : Parts} {size : ℕ} (w : Whole es cs p size) (one : p.end - p.first ≡ 1) where
  pub start_held : field epilogue_stride es p.first 0 ≤ size
  start_held = omega (arith, w.starts p.first (omega arith) (omega (arith, one)))

-- ---- the shape

module _ (es cs : List ℕ) (p : Parts) (size : ℕ) where
  pub index_no : false ≡ single_at es cs p size → None ≡ pick (single_at es cs p size) (Some (index_at es cs p p.first)) None
  unfolding pick
  index_no e = ap (λ b. pick b (Some (index_at es cs p p.first)) None) e

  pub index_yes : true ≡ single_at es cs p size → {i : ℕ} → i ≡ index_at es cs p p.first
      → Some i ≡ pick (single_at es cs p size) (Some (index_at es cs p p.first)) None
  unfolding pick
  index_yes e {i} g = ap Some g ∙ ap (λ b. pick b (Some (index_at es cs p p.first)) None) e

module _ {es cs : List ℕ} {p : Parts} {size : ℕ} (w : Whole es cs p size) {codes : ℕ} (g : held_to (length (codes_in es cs p)) ≡ Some codes) where
  pub shape_codes : codes ≡ length (codes_in es cs p)
  unfolding held_to
  shape_codes = (some_picked (leb (length (codes_in es cs p)) 1020) _ g).1

  module _ {r : Option ℕ} (e : r ≡ pick (single_at es cs p size) (Some (index_at es cs p p.first)) None) where
    pub shape_only : {i : ℕ} → r ≡ Some i → Shaped es cs p size (record { epilogues = Single i; codes = codes })
    unfolding count_at pick
    shape_only {i} y =
        let h = some_picked (single_at es cs p size) _ (sym e ∙ y) in
        record {
          is_only = sym h.0;
          is_count = h.1 ∙ sym (ap (λ b. pick b (index_at es cs p p.first) (p.end - p.first)) h.0);
          is_codes = shape_codes;
          few = omega (arith, h.1, index_low es cs p p.first, w.small);
          small = omega (arith, shape_codes, w.small);
        }

    pub shape_many : r ≡ None → Shaped es cs p size (record { epilogues = Scoped (p.end - p.first); codes = codes })
    unfolding count_at pick
    shape_many y =
        let h = none_picked (single_at es cs p size) _ (sym e ∙ y) in
        record {
          is_only = sym h;
          is_count = sym (ap (λ b. pick b (index_at es cs p p.first) (p.end - p.first)) h);
          is_codes = shape_codes;
          few = w.few;
          small = omega (arith, shape_codes, w.small);
        }

pub held_there : {es cs : List ℕ} {p : Parts} {size : ℕ} → Whole es cs p size → held_to (length (codes_in es cs p)) ≡ Some (length (codes_in es cs p))
unfolding held_to pick
held_there {es} {cs} {p} w = ap (λ b. pick b (Some (length (codes_in es cs p))) None) (le-leb (length (codes_in es cs p)) 1020 w.small)

-- ---- the record by a shape

pub scopes_none : (es cs : List ℕ) (p : Parts) {b : Bool} → b ≡ true → [] ≡ scopes_at es cs p b
unfolding scopes_at pick
scopes_none es cs p e = sym (ap (λ b. pick b [] (words_from es cs p p.first (p.end - p.first))) e)

pub scopes_all : (es cs : List ℕ) (p : Parts) {b : Bool} → b ≡ false → words_from es cs p p.first (p.end - p.first) ≡ scopes_at es cs p b
unfolding scopes_at pick
scopes_all es cs p e = sym (ap (λ b. pick b [] (words_from es cs p p.first (p.end - p.first))) e)

module _ {es cs : List ℕ} {p : Parts} {size : ℕ} {s : Shape} (h : Shaped es cs p size s) where
  abbrev words : ℕ
  words = (s.codes + 3) / 4

  pub record_is : header_of (size / 4) (only_in s.epilogues) (count_in s.epilogues) words ++ (scopes_at es cs p (only_in s.epilogues) ++ (codes_in es cs p ++ replicate (4 * words - s.codes) nop_byte))
      ≡ record_at es cs p size
  unfolding record_at words_at instructions
  record_is =
      ap (λ b. header_of (size / 4) b (count_in s.epilogues) words ++ (scopes_at es cs p b ++ (codes_in es cs p ++ replicate (4 * words - s.codes) nop_byte))) h.is_only
      ∙ ap (λ (n : ℕ). header_of (size / 4) (single_at es cs p size) n words ++ (scopes_at es cs p (single_at es cs p size) ++ (codes_in es cs p ++ replicate (4 * words - s.codes) nop_byte))) h.is_count
      ∙ ap (λ (n : ℕ). header_of (size / 4) (single_at es cs p size) (count_at es cs p size) ((n + 3) / 4) ++ (scopes_at es cs p (single_at es cs p size) ++ (codes_in es cs p ++ replicate (4 * ((n + 3) / 4) - n) nop_byte))) h.is_codes

  pub record_length : length (record_at es cs p size)
      ≡ length (header_of (size / 4) (only_in s.epilogues) (count_in s.epilogues) words) + (length (scopes_at es cs p (only_in s.epilogues)) + (length (codes_in es cs p) + (4 * words - s.codes)))
  record_length =
      let a = header_of (size / 4) (only_in s.epilogues) (count_in s.epilogues) words in
      let b = scopes_at es cs p (only_in s.epilogues) in
      let d = replicate (4 * words - s.codes) nop_byte in
      omega (arith, ap length (sym record_is) ∙ length-append a (b ++ (codes_in es cs p ++ d)), length-append b (codes_in es cs p ++ d), length-append (codes_in es cs p) d, length-replicate {A = ℕ} (4 * words - s.codes) nop_byte)

  pub length-single : {n : ℕ} → n ≡ length (header_of (size / 4) (only_in s.epilogues) (count_in s.epilogues) words) → (only_in s.epilogues) ≡ true → n + 4 * words ≡ length (record_at es cs p size)
  length-single {n} e y = omega (arith, record_length, e, ap length (sym (scopes_none es cs p y)), h.is_codes)

  pub length-other : {n : ℕ} → n ≡ length (header_of (size / 4) (only_in s.epilogues) (count_in s.epilogues) words) → (only_in s.epilogues) ≡ false
      → n + 4 * (p.end - p.first) + 4 * words ≡ length (record_at es cs p size)
  length-other {n} e y =
      omega (arith, record_length, e, ap length (sym (scopes_all es cs p y)), words_length es cs p p.first (p.end - p.first), h.is_codes)

-- ---- and its parts have room, one behind the other

module _ {es cs : List ℕ} {p : Parts} {size : ℕ} {s : Shape} (h : Shaped es cs p size s) (xs : List ℕ) (at : ℕ)
    (room : at + length (record_at es cs p size) ≤ length xs) where
  pub header_room : at + length (header_of (size / 4) (only_in s.epilogues) (count_in s.epilogues) ((s.codes + 3) / 4)) ≤ length xs
  header_room = omega (arith, room, record_length h)

  module _ {ys : List ℕ} {a : ℕ} (u : Wrote xs ys at a (header_of (size / 4) (only_in s.epilogues) (count_in s.epilogues) ((s.codes + 3) / 4))) where
    pub words_room : a + length (scopes_at es cs p (only_in s.epilogues)) ≤ length ys
    words_room = omega (arith, room, record_length h, u.past, kept u)

    module _ {zs : List ℕ} {b : ℕ} (v : Wrote ys zs a b (scopes_at es cs p (only_in s.epilogues))) where
      pub codes_fit : b + length (codes_in es cs p) ≤ length zs
      codes_fit = omega (arith, room, record_length h, u.past, kept u, v.past, kept v)

      pub pad_room : {vs : List ℕ} {c : ℕ} → Wrote zs vs b c (codes_in es cs p) → c + (4 * ((s.codes + 3) / 4) - s.codes) ≤ length vs
      pad_room w = omega (arith, room, record_length h, u.past, kept u, v.past, kept v, w.past, kept w)

pub header_wrote : {h g : Header} {xs ys : List ℕ} {p q : ℕ} → h ≡ g → Wrote xs ys p q (header_by h) → Wrote xs ys p q (header_by g)
header_wrote {xs = xs} {ys = ys} {p = p} {q = q} e w = subst (λ h. Wrote xs ys p q (header_by h)) e w

pub short_is : {es cs : List ℕ} {p : Parts} {size : ℕ} → Whole es cs p size → size / 4 < 2 ^ 18
unfolding instructions
short_is w = w.short

-- ---- the definitions' record

module _ (fs es cs : List ℕ) (k : ℕ) where
  abbrev f : Function
  f = numbered_function fs es cs k

  abbrev p : Parts
  p = parts_at fs k

  abbrev size : ℕ
  size = field function_stride fs k 1

  single_at_lem : (n : ℕ) → n ≡ p.end - p.first → only_one (ends_with f) (each (numbered_epilogue es cs) p.first n) ≡ (eqb n 1 && ends_with f (numbered_epilogue es cs p.first))
  single_at_lem n e = by n
    where
      by : (n : ℕ) → only_one (ends_with f) (each (numbered_epilogue es cs) p.first n) ≡ (eqb n 1 && ends_with f (numbered_epilogue es cs p.first))
      by zero = only_other (ends_with f) (numbered_epilogue es cs) p.first 0 (λ e. omega (arith, e))
      by (suc zero) = only_one_lem (ends_with f) (numbered_epilogue es cs) p.first 1 refl
      by (suc (suc n)) =
          only_other (ends_with f) (numbered_epilogue es cs) p.first (suc (suc n)) (λ e. omega (arith, e))
          ∙ sym (ap (λ b. b && ends_with f (numbered_epilogue es cs p.first)) (ne_eqb (suc (suc n)) 1 (λ e. omega (arith, e))))

  single_same : single f ≡ single_at es cs p size
  unfolding single single_at
  single_same =
      ap (only_one (ends_with f)) (epilogues_same fs es cs k) ∙ single_at_lem (p.end - p.first) refl
      ∙ ap (λ b. eqb (p.end - p.first) 1 && b) (ends_same fs es cs k)

  many : length f.epilogues ≡ p.end - p.first
  many = ap length (epilogues_same fs es cs k) ∙ each-length (numbered_epilogue es cs) p.first (p.end - p.first)

  first_of : (n : ℕ) → 0 < n → first_index f (each (numbered_epilogue es cs) p.first n) ≡ index_at es cs p p.first
  unfolding first_index each
  first_of zero h = absurd (omega (arith, h))
  first_of (suc n) h = index_same fs es cs k p.first

  one_of : single_at es cs p size ≡ true → 0 < p.end - p.first
  one_of e = omega (arith, single_one es cs p size e)

  count_same : count_of f ≡ count_at es cs p size
  unfolding count_of count_at
  count_same =
      ap (λ b. pick b (first_index f f.epilogues) (length f.epilogues)) single_same
      ∙ ap (λ l. pick (single_at es cs p size) (first_index f l) (length f.epilogues)) (epilogues_same fs es cs k)
      ∙ ap (λ (n : ℕ). pick (single_at es cs p size) (first_index f (each (numbered_epilogue es cs) p.first (p.end - p.first))) n) many
      ∙ by (single_at es cs p size) refl
    where
      by : (b : Bool) → single_at es cs p size ≡ b
          → pick b (first_index f (each (numbered_epilogue es cs) p.first (p.end - p.first))) (p.end - p.first) ≡ pick b (index_at es cs p p.first) (p.end - p.first)
      by true e = ap (λ (x : ℕ). pick true x (p.end - p.first)) (first_of (p.end - p.first) (one_of e))
      by false e = picked
        where
          picked : pick false (first_index f (each (numbered_epilogue es cs) p.first (p.end - p.first))) (p.end - p.first) ≡ pick false (index_at es cs p p.first) (p.end - p.first)
          picked = no_pick ℕ (first_index f (each (numbered_epilogue es cs) p.first (p.end - p.first))) (p.end - p.first) ∙ sym (no_pick ℕ (index_at es cs p p.first) (p.end - p.first))

  words_same : words_of f ≡ words_at es cs p
  unfolding words_of words_at
  words_same = ap (λ l. (length l + 3) / 4) (codes_same fs es cs k)

  scope_words : (i n : ℕ) → scope_bytes f (each (numbered_epilogue es cs) i n) ≡ words_from es cs p i n
  unfolding scope_bytes each words_from word_at numbered_epilogue
  scope_words i zero = refl
  scope_words i (suc n) =
      ap (λ (x : ℕ). little 4 (instructions (field epilogue_stride es i 0) + 2 ^ 22 * x) ++ scope_bytes f (each (numbered_epilogue es cs) (suc i) n)) (index_same fs es cs k i)
      ∙ ap (λ l. little 4 (instructions (field epilogue_stride es i 0) + 2 ^ 22 * index_at es cs p i) ++ l) (scope_words (suc i) n)

  scopes_same : scopes_of f ≡ scopes_at es cs p (single_at es cs p size)
  unfolding scopes_of scopes_at
  scopes_same =
      ap (λ b. pick b [] (scope_bytes f f.epilogues)) single_same
      ∙ ap (λ l. pick (single_at es cs p size) [] l) (ap (scope_bytes f) (epilogues_same fs es cs k) ∙ scope_words p.first (p.end - p.first))

  header_same : header_bytes f ≡ header_of (instructions size) (single_at es cs p size) (count_at es cs p size) (words_at es cs p)
  unfolding numbered_function
  header_same =
      sym (header_is f) ∙ ap (λ b. header_of (instructions size) b (count_of f) (words_of f)) single_same
      ∙ ap (λ (n : ℕ). header_of (instructions size) (single_at es cs p size) n (words_of f)) count_same
      ∙ ap (λ (n : ℕ). header_of (instructions size) (single_at es cs p size) (count_at es cs p size) n) words_same

  record_same : record_bytes f ≡ record_at es cs p size
  unfolding record_bytes record_at
  record_same =
      ap (λ l. l ++ (scopes_of f ++ (codes_of f ++ replicate (4 * words_of f - length (codes_of f)) nop_byte))) header_same
      ∙ ap (λ l. header ++ (l ++ (codes_of f ++ replicate (4 * words_of f - length (codes_of f)) nop_byte))) scopes_same
      ∙ ap (λ l. header ++ (scopes_at es cs p (single_at es cs p size) ++ (l ++ replicate (4 * words_of f - length l) nop_byte))) (codes_same fs es cs k)
      ∙ ap (λ (n : ℕ). header ++ (scopes_at es cs p (single_at es cs p size) ++ (codes_in es cs p ++ replicate (4 * n - length (codes_in es cs p)) nop_byte))) words_same
    where
      header : List ℕ
      header = header_of (instructions size) (single_at es cs p size) (count_at es cs p size) (words_at es cs p)

  -- by the packed word
  module _ (c : ℕ) {w : Option ℕ} (e : w ≡ pick (is_packed f) (Some c) None) where
    pub info_none : is_some w ≡ true → [] ≡ info_of f
    unfolding info_of
    info_none h = by (is_packed f) e
      where
        by : (b : Bool) → w ≡ pick b (Some c) None → [] ≡ pick b [] (record_bytes f)
        by true g = sym (yes_pick [] (record_bytes f))
        by false g = absurd (false≢true (sym (ap is_some (g ∙ no_pick (Option ℕ) (Some c) None)) ∙ h))

    pub info_of_lem : is_some w ≡ false → {q : Parts} → q ≡ p → record_at es cs q size ≡ info_of f
    unfolding info_of
    info_of_lem h {q} z = ap (λ x. record_at es cs x size) z ∙ by (is_packed f) e
      where
        by : (b : Bool) → w ≡ pick b (Some c) None → record_at es cs p size ≡ pick b [] (record_bytes f)
        by true g = absurd (false≢true (sym h ∙ ap is_some (g ∙ yes_pick (Some c) None)))
        by false g = sym (no_pick (List ℕ) [] (record_bytes f) ∙ record_same)
