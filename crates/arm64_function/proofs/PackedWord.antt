-- A function is packed where its only epilogue shares the prologue's codes and the word stands for both.
use mathlib.Core.Path.{◌≡◌, refl, subst, sym, ap, ◌∙◌}
use mathlib.Core.Bool.{Bool, true, false, ◌&&◌, ◌||◌, and-true, and-false}
use mathlib.Core.List.{List, [], ◌∷◌, ◌++◌, append-nil}
use Prim.Native.Nat.{ℕ, zero, suc, ◌+◌, ◌-◌, ◌*◌, ◌/◌, ◌%◌, ◌^◌, ◌≤◌, ◌<◌}
use native.Mathlib.Omega.{arith}
use lib.Dec.{T, leb, ltb, eqb}
use lib.ListN.{length}
use borrow.Author.Tests.{leb-true, le-leb, lt-leb, ltb-true}
use Rattle.std.specs.Prelude.{Option, Some, None}
use Rattle.std.proofs.lemmas.Bool.{and_parts}
use Rattle.format.specs.Prelude.{pick, each}
use Rattle.format.specs.Lists.{all_in, field}
use Rattle.format.proofs.ListLaws.{each-length, in_range}
use Rattle.format.proofs.Choice.{is_true}
use Rattle.arm64.specs.declared.Code.{Code}
use Rattle.arm64.specs.Lists.{Epilogue, Function, function_stride, epilogue_stride, numbered_code, numbered_epilogue, numbered_function}
use Rattle.arm64.specs.declared.Packed.{Packed}
use Rattle.arm64.specs.Packing.{candidate, packed_word, stands_for, tally, tallies, nothing_yet, as_fields}
use Rattle.arm64.specs.Runs.{no_pair, simplify, resolve, run_fits, backwards, run_bytes, run_size, leads, is_in, own_runs, runs_bytes, place_in, index_of}
use Rattle.arm64.specs.Writer.{codes_in as codesOfLists, prologue_run, epilogue_run, codes_of, index_in, instructions, longest, ends_with, only_one, packed_for, is_packed, size_ok}
use Rattle.arm64_simple.specs.declared.Run.{Run}
use Rattle.arm64_simple.specs.Saves.{saves}
use Rattle.arm64_function.specs.declared.Parts.{Parts}
use Rattle.arm64_function.specs.Listed.{Fine}
use Rattle.arm64_function.specs.Own.{prologue_at, epilogue_at, parts_at, Fitted, prologue_in, run_at, own_in, codes_in, index_at, start_ok_at, fits_at, parts_ok, most_codes}
use Rattle.arm64_function.specs.PackedWord.{shared_in, packed_at, Only}
use Rattle.arm64_function.proofs.Given.{prologue_same, epilogue_run_lem, epilogues_same, codes_same, index_same, starts_same, ready}
use Rattle.arm64_function.proofs.Own.{run_size_lem, leading}
use Rattle.arm64_function.proofs.Asked.{passed, values_same}

-- ---- a packed word has its flag, so it is never 0

tallies_flag : (p : Packed) (cs : List Code) → (tallies p cs).flag ≡ p.flag
unfolding tallies tally
tallies_flag p [] = refl
tallies_flag p (c ∷ cs) = tallies_flag (tally p c) cs

pub word_there : (size : ℕ) (ps : List Code) → 0 < packed_word (candidate size ps)
unfolding packed_word candidate as_fields nothing_yet
word_there size ps = omega (arith, tallies_flag (nothing_yet size) (resolve no_pair ps))

-- ---- an only epilogue

module _ (test : Epilogue → Bool) (e : ℕ → Epilogue) (at : ℕ) where
  pub only_one_lem : (n : ℕ) → n ≡ 1 → only_one test (each e at n) ≡ test (e at)
  unfolding only_one each
  only_one_lem n h = ap (λ (m : ℕ). only_one test (each e at m)) h

  pub only_other : (n : ℕ) → (n ≡ 1 → ⊥) → only_one test (each e at n) ≡ false
  unfolding only_one each
  only_other zero h = refl
  only_other (suc zero) h = absurd (h refl)
  only_other (suc (suc n)) h = refl

-- ---- a run that leads in the prologue's adds no codes

no_runs : (P : List Code) (R : ℕ → List Code) (at n : ℕ) → n ≡ 1 → leads (R at) P ≡ true → own_runs P [] (each R at n) ≡ []
unfolding own_runs each pick
no_runs P R at n h e =
    ap (λ (m : ℕ). own_runs P [] (each R at m)) h ∙ ap (λ b. pick (b || is_in (R at) []) [] (R at ∷ []) ++ []) e

-- E, the shared run: the index and the size of the codes count only where the run leads
together : (a x y l v w : Bool) → (l ≡ true → x ≡ v) → (l ≡ true → y ≡ w) → (a && x && y && l) ≡ (a && l && v && w)
together false x y l v w g h = refl
together true x y false v w g h = and-false (x && y)
together true x y true v w g h = and-true (x && y) ∙ ap (λ b. b && y) (g refl) ∙ ap (λ b. v && b) (h refl)

module _ (es cs : List ℕ) (p : Parts) (one : p.end - p.first ≡ 1) (e : leads (run_at es cs p.first) (prologue_in cs p) ≡ true) where
  index_one : index_at es cs p p.first ≡ run_size (prologue_in cs p) - run_size (run_at es cs p.first)
  unfolding index_at index_of pick
  index_one =
      ap
      (λ b. pick b (run_size (prologue_in cs p) - run_size (run_at es cs p.first)) (run_size (prologue_in cs p) + place_in (run_at es cs p.first) (own_in es cs p)))
      e

  codes_one : length (codes_in es cs p) ≡ run_size (prologue_in cs p)
  unfolding codes_in own_in runs_bytes run_size
  codes_one =
      ap (λ o. length (run_bytes (prologue_in cs p) ++ runs_bytes o)) (no_runs (prologue_in cs p) (run_at es cs) p.first (p.end - p.first) one e)
      ∙ ap length (append-nil (run_bytes (prologue_in cs p)))

module _ (fs es cs : List ℕ) (k : ℕ) where
  abbrev f : Function
  f = numbered_function fs es cs k

  abbrev p : Parts
  p = parts_at fs k

  abbrev i : ℕ
  i = (parts_at fs k).first

  abbrev P : List Code
  P = prologue_in cs p

  abbrev R : List Code
  R = run_at es cs i

  abbrev last : Epilogue
  last = numbered_epilogue es cs i

  abbrev size : ℕ
  size = field function_stride fs k 1

  abbrev left : ℕ
  left = instructions (size - field epilogue_stride es i 0)

  pub ends_same : ends_with f last ≡ (eqb left (field epilogue_stride es i 2 + 1) && leb (index_at es cs p i) 31 && leb (length (codes_in es cs p)) 124)
  unfolding ends_with numbered_function numbered_epilogue
  ends_same =
      ap (λ (n : ℕ). eqb left (n + 1) && leb (index_in f last) 31 && leb (length (codes_of f)) 124)
      (each-length (numbered_code cs) (field epilogue_stride es i 1) (field epilogue_stride es i 2))
      ∙ ap (λ (n : ℕ). eqb left (field epilogue_stride es i 2 + 1) && leb n 31 && leb (length (codes_of f)) 124) (index_same fs es cs k i)
      ∙ ap (λ l. eqb left (field epilogue_stride es i 2 + 1) && leb (index_at es cs p i) 31 && leb (length l) 124) (codes_same fs es cs k)

  leads_same : leads (epilogue_run last) (prologue_run f) ≡ leads R P
  leads_same = ap (λ x. leads x (prologue_run f)) (epilogue_run_lem es cs i) ∙ ap (leads R) (prologue_same fs es cs k)

  stands_same : stands_for (candidate (instructions size) (prologue_run f)) (prologue_run f) (epilogue_run last) ≡ stands_for (candidate (instructions size) P) P R
  stands_same =
      ap (stands_for (candidate (instructions size) (prologue_run f)) (prologue_run f)) (epilogue_run_lem es cs i)
      ∙ ap (λ x. stands_for (candidate (instructions size) x) x R) (prologue_same fs es cs k)

  module _ (one : p.end - p.first ≡ 1) where
    shared_same : (ends_with f last && leads (epilogue_run last) (prologue_run f)) ≡ shared_in cs left p.prologue (epilogue_at es i)
    unfolding shared_in epilogue_at run_at prologue_in
    shared_same =
        ap (λ b. b && leads (epilogue_run last) (prologue_run f)) ends_same
        ∙ ap (λ b. eqb left (field epilogue_stride es i 2 + 1) && leb (index_at es cs p i) 31 && leb (length (codes_in es cs p)) 124 && b) leads_same
        ∙ together (eqb left (field epilogue_stride es i 2 + 1)) (leb (index_at es cs p i) 31) (leb (length (codes_in es cs p)) 124) (leads R P)
        (leb (run_size P - run_size R) 31) (leb (run_size P) 124) (λ e. ap (λ (n : ℕ). leb n 31) (index_one es cs p one e))
        (λ e. ap (λ (n : ℕ). leb n 124) (codes_one es cs p one e))

    packed_same : is_packed f ≡ (shared_in cs left p.prologue (epilogue_at es i) && stands_for (candidate (instructions size) P) P R)
    unfolding is_packed packed_for numbered_function
    packed_same =
        ap (only_one (packed_for f)) (epilogues_same fs es cs k) ∙ only_one_lem (packed_for f) (numbered_epilogue es cs) i (p.end - p.first) one
        ∙ ap (λ b. b && stands_for (candidate (instructions size) (prologue_run f)) (prologue_run f) (epilogue_run last)) shared_same
        ∙ ap (λ b. shared_in cs left p.prologue (epilogue_at es i) && b) stands_same

    pub word_one : packed_at es cs p size ≡ pick (is_packed f) (Some (packed_word (candidate (instructions f.size) (prologue_run f)))) None
    unfolding packed_at numbered_function
    word_one =
        sym
        (ap (λ b. pick b (Some (packed_word (candidate (instructions size) (prologue_run f)))) None) packed_same
        ∙ ap (λ x. pick (shared_in cs left p.prologue (epilogue_at es i) && stands_for (candidate (instructions size) P) P R) (Some (packed_word (candidate (instructions size) x))) None)
        (prologue_same fs es cs k))

  pub word_none : (p.end - p.first ≡ 1 → ⊥) → None ≡ pick (is_packed f) (Some (packed_word (candidate (instructions f.size) (prologue_run f)))) None
  unfolding is_packed pick
  word_none h =
      sym
      (ap (λ b. pick b (Some (packed_word (candidate (instructions f.size) (prologue_run f)))) None)
      (ap (only_one (packed_for f)) (epilogues_same fs es cs k) ∙ only_other (packed_for f) (numbered_epilogue es cs) i (p.end - p.first) h))

  -- by the parts as the code has them
  module _ {q : Parts} (e : q ≡ p) where
    pub word_other : (q.end - q.first ≡ 1 → ⊥) → None ≡ pick (is_packed f) (Some (packed_word (candidate (instructions f.size) (prologue_run f)))) None
    word_other h = word_none (λ g. h (ap (λ x. x.end - x.first) e ∙ g))

    pub word_only : q.end - q.first ≡ 1 → {n : Option ℕ} → n ≡ packed_at es cs q size
        → n ≡ pick (is_packed f) (Some (packed_word (candidate (instructions f.size) (prologue_run f)))) None
    word_only h g = g ∙ ap (λ x. packed_at es cs x size) e ∙ word_one (sym (ap (λ x. x.end - x.first) e) ∙ h)

-- ---- whether the run is shared, test by test

module _ (cs : List ℕ) (left : ℕ) (p e : Run) where
  abbrev prologue : List Code
  prologue = simplify no_pair (saves cs p)

  abbrev epilogue : List Code
  epilogue = simplify no_pair (saves cs e)

  pub not_last : eqb left (e.count + 1) ≡ false → false ≡ shared_in cs left p e
  unfolding shared_in
  not_last h = simp h

  module _ (h : eqb left (e.count + 1) ≡ true) where
    pub not_leading : leads epilogue prologue ≡ false → false ≡ shared_in cs left p e
    unfolding shared_in
    not_leading g = simp (h, g)

    module _ (g : leads epilogue prologue ≡ true) {n : ℕ} (s : n ≡ length (backwards prologue)) where
      pub too_long : 123 < n → false ≡ shared_in cs left p e
      unfolding shared_in
      too_long l = simp (lt-leb (run_size prologue) 124 (omega (arith, run_size_lem prologue, s, l)), and-false)

      module _ {m : ℕ} (t : m ≡ length (backwards epilogue)) where
        pub no_longer : m ≤ n
        no_longer = omega (arith, leading epilogue prologue g, s, t)

        pub by_index : n ≤ 123 → leb (n - m) 31 ≡ shared_in cs left p e
        unfolding shared_in
        by_index l =
            let z : n - m ≡ run_size prologue - run_size epilogue = omega (arith, run_size_lem prologue, run_size_lem epilogue, s, t) in
            ap (λ (d : ℕ). leb d 31) z
            ∙ simp (h, g, le-leb (run_size prologue) 124 (omega (arith, run_size_lem prologue, s, l)), and-true)

-- ---- the word of an only epilogue

module _ (es cs : List ℕ) (p : Parts) (size : ℕ) where
  abbrev e : Run
  e = epilogue_at es p.first

  abbrev code_left : ℕ
  code_left = instructions (size - field epilogue_stride es p.first 0)

  abbrev stands : Bool
  stands = stands_for (candidate (instructions size) (prologue_in cs p)) (prologue_in cs p) (run_at es cs p.first)

  pub unshared : shared_in cs code_left p.prologue e ≡ false → None ≡ packed_at es cs p size
  unfolding packed_at pick
  unshared g = sym (ap (λ b. pick (b && stands) (Some (packed_word (candidate (instructions size) (prologue_in cs p)))) None) g)

  abbrev P₁ : List Code
  P₁ = simplify no_pair (saves cs p.prologue)

  pub shared : shared_in cs code_left p.prologue e ≡ true → {s t : List Code} → s ≡ saves cs p.prologue → t ≡ saves cs e → {n : Option ℕ}
      → n ≡ pick (stands_for (candidate (size / 4) (simplify no_pair s)) (simplify no_pair s) (simplify no_pair t)) (Some (packed_word (candidate (size / 4) (simplify no_pair s)))) None
      → n ≡ packed_at es cs p size
  unfolding packed_at prologue_in run_at instructions
  shared g {s} {t} a b k =
      k
      ∙ ap (λ x. pick (stands_for (candidate (size / 4) (simplify no_pair x)) (simplify no_pair x) (simplify no_pair t)) (Some (packed_word (candidate (size / 4) (simplify no_pair x)))) None) a
      ∙ ap (λ x. pick (stands_for (candidate (size / 4) P₁) P₁ (simplify no_pair x)) (Some (packed_word (candidate (size / 4) P₁))) None) b
      ∙ sym (ap (λ b. pick (b && stands) (Some (packed_word (candidate (size / 4) P₁))) None) g)

-- ---- what the questions have answered

in_all : (test : ℕ → Bool) (at n i : ℕ) → all_in test at n ≡ true → at ≤ i → i < at + n → test i ≡ true
in_all test at n i e a b =
    let g : at + (i - at) ≡ i = omega (arith, a) in
    is_true (test i) (subst (λ (j : ℕ). T (test j)) g (in_range test at n (i - at) (subst T (sym e) tt) (omega (arith, a, b))))

module _ {fs es cs : List ℕ} {k : ℕ} (h : Fine fs es cs k) where
  abbrev parts : Parts
  parts = parts_at fs k

  abbrev pub values : parts_ok es cs parts ≡ true
  values = sym (values_same fs es cs k) ∙ (passed k (numbered_function fs es cs k) h.asked).1.1

  pub fitted : Fitted es cs parts
  unfolding parts_ok fits_at
  fitted =
      let n = parts.end - parts.first in
      let a = and_parts
      (run_fits no_pair (saves cs parts.prologue) && all_in (fits_at es cs) parts.first n && ltb n 65536)
      (leb (length (codes_in es cs parts)) most_codes) values in
      let b = and_parts (run_fits no_pair (saves cs parts.prologue) && all_in (fits_at es cs) parts.first n) (ltb n 65536) a.0 in
      let d = and_parts (run_fits no_pair (saves cs parts.prologue)) (all_in (fits_at es cs) parts.first n) b.0 in
      record { prologue = d.0; epilogues = λ i l g. in_all (fits_at es cs) parts.first n i d.1 l (omega (arith, l, g)) }

  pub size_short : instructions (field function_stride fs k 1) < 2 ^ 18
  unfolding size_ok numbered_function
  size_short =
      let size = field function_stride fs k 1 in
      let l = leb-true (instructions size) longest
      (and_parts (eqb (size % 4) 0) (leb (instructions size) longest) (passed k (numbered_function fs es cs k) h.asked).0).1 in
      omega (arith, l)

  pub start_low : (i : ℕ) → parts.first ≤ i → i < parts.end → field epilogue_stride es i 0 < field function_stride fs k 1
  unfolding start_ok_at numbered_function
  start_low i l g =
      let size = field function_stride fs k 1 in
      let n = parts.end - parts.first in
      let a : all_in (start_ok_at es size) parts.first n ≡ true = sym (starts_same fs es cs k) ∙ (passed k (numbered_function fs es cs k) h.asked).1.0 in
      let b = and_parts (eqb (field epilogue_stride es i 0 % 4) 0) (ltb (field epilogue_stride es i 0) size)
      (in_all (start_ok_at es size) parts.first n i a l (omega (arith, l, g))) in
      ltb-true (field epilogue_stride es i 0) size b.1

  module _ (short : length cs * 8 < 2 ^ 63) where
    pub only_of : parts.end - parts.first ≡ 1 → Only es cs parts (field function_stride fs k 1)
    unfolding parts_at prologue_at epilogue_at codesOfLists
    only_of one =
        let at = field function_stride fs k 4 in
        let g : 0 < field function_stride fs k 5 = omega (arith, one) in
        record {
          ready = ready h.listed short;
          one = omega (arith, g);
          start = let l = start_low at (omega arith) (omega (arith, g)) in omega (arith, l);
          prologue = fitted.prologue;
          few_prologue = omega (arith, h.listed.few_codes);
        }
