-- Questions 81 to 83, by their answers.
use mathlib.Core.Path.{◌≡◌, refl, sym, ap, ◌∙◌}
use mathlib.Core.Bool.{Bool, true, false, ◌&&◌}
use mathlib.Core.Option.{none}
use mathlib.Core.List.{List, [], ◌∷◌}
use Prim.Native.Nat.{ℕ, ◌+◌, ◌-◌, ◌/◌, ◌^◌, ◌≤◌, ◌<◌}
use native.Mathlib.Omega.{arith}
use lib.Dec.{leb, ltb, eqb}
use lib.ListN.{length}
use borrow.Author.Tests.{leb-true, le-leb, lt-leb, lt-ltb, le-ltb}
use Rattle.format.specs.Prelude.{pick, all}
use Rattle.format.specs.Lists.{all_in, field}
use Rattle.std.specs.Prelude.{Option, Ok, Err}
use Rattle.std.specs.Option.{is_some}
use Rattle.std.proofs.lemmas.Bool.{and_parts}
use Rattle.format.proofs.Asked.{question_of}
use Rattle.format.specs.Questions.{ask, and_then}
use Rattle.format.proofs.Choice.{either}
use Rattle.format.proofs.ListLaws.{each-length}
use Rattle.arm64.specs.Lists.{Epilogue, Function, function_stride, numbered_epilogue, numbered_function}
use Rattle.arm64.specs.Runs.{no_pair, run_fits}
use Rattle.arm64.specs.Writer.{codes_of, index_in, instructions, ends_with, only_one, single, first_index, count_of, words_of, size_ok, start_ok, values_ok, function_asks}
use Rattle.arm64_simple.specs.Saves.{saves}
use Rattle.arm64_function.specs.declared.Parts.{Parts}
use Rattle.arm64_function.specs.Own.{parts_at, codes_in, start_ok_at, fits_at, parts_ok, length_ok, held_to}
use Rattle.arm64_function.proofs.Given.{prologue_saves, epilogues_same, codes_same, starts_same, fits_same}

-- ---- the first no

pub no_length : (k : ℕ) (f : Function) → size_ok f ≡ false → Err (81, 0) ≡ question_of (function_asks k f)
unfolding function_asks ask and_then question_of pick
no_length k f e = simp e

module _ (k : ℕ) (f : Function) (e : size_ok f ≡ true) where
  pub no_start : all (start_ok f) f.epilogues ≡ false → Err (82, 0) ≡ question_of (function_asks k f)
  unfolding function_asks ask and_then question_of pick
  no_start g = simp (e, g)

  module _ (g : all (start_ok f) f.epilogues ≡ true) where
    pub no_value : values_ok f ≡ false → Err (83, 0) ≡ question_of (function_asks k f)
    unfolding function_asks ask and_then question_of pick
    no_value h = simp (e, g, h)

    pub no_question : values_ok f ≡ true → Ok tt ≡ question_of (function_asks k f)
    unfolding function_asks ask and_then question_of pick
    no_question h = simp (e, g, h)

-- ---- and where there is none

three : (a b c : Bool) → and_then (ask a 81 0) (and_then (ask b 82 0) (ask c 83 0)) ≡ none → (a ≡ true) × ((b ≡ true) × (c ≡ true))
unfolding ask and_then pick
three true true true e = (refl, (refl, refl))
three true true false e = let z : ◌≡◌ {A = ℕ} 0 1 = cc in absurd (omega arith)
three true false c e = let z : ◌≡◌ {A = ℕ} 0 1 = cc in absurd (omega arith)
three false b c e = let z : ◌≡◌ {A = ℕ} 0 1 = cc in absurd (omega arith)

pub passed : (k : ℕ) (f : Function) → function_asks k f ≡ none → (size_ok f ≡ true) × ((all (start_ok f) f.epilogues ≡ true) × (values_ok f ≡ true))
unfolding function_asks
passed k f e = three (size_ok f) (all (start_ok f) f.epilogues) (values_ok f) e

-- ---- question 83 as the code asks it

one_only : (test : Epilogue → Bool) (es : List Epilogue) → only_one test es ≡ true → length es ≡ 1
unfolding only_one
one_only test [] e = let z : ◌≡◌ {A = ℕ} 0 1 = cc in absurd (omega arith)
one_only test (x ∷ []) e = refl
one_only test (x ∷ y ∷ es) e = let z : ◌≡◌ {A = ℕ} 0 1 = cc in absurd (omega arith)

ends_low : (f : Function) (e : Epilogue) → ends_with f e ≡ true → index_in f e ≤ 31
unfolding ends_with
ends_low f e t =
    let a = and_parts (eqb (instructions (f.size - e.start)) (length e.codes + 1) && leb (index_in f e) 31) (leb (length (codes_of f)) 124) t in
    leb-true (index_in f e) 31 (and_parts (eqb (instructions (f.size - e.start)) (length e.codes + 1)) (leb (index_in f e) 31) a.0).1

first_low : (f : Function) (es : List Epilogue) → only_one (ends_with f) es ≡ true → first_index f es ≤ 31
unfolding only_one first_index
first_low f [] e = omega arith
first_low f (x ∷ []) e = ends_low f x e
first_low f (x ∷ y ∷ es) e = let z : ◌≡◌ {A = ℕ} 0 1 = cc in absurd (omega arith)

-- the count's field fits where the number of epilogues does
count_fits : (f : Function) → ltb (count_of f) (2 ^ 16) ≡ ltb (length f.epilogues) 65536
unfolding count_of single pick
count_fits f = by (only_one (ends_with f) f.epilogues) refl
  where
    by : (b : Bool) → only_one (ends_with f) f.epilogues ≡ b → ltb (pick b (first_index f f.epilogues) (length f.epilogues)) (2 ^ 16) ≡ ltb (length f.epilogues) 65536
    by true e =
        lt-ltb (first_index f f.epilogues) (2 ^ 16) (omega (arith, first_low f f.epilogues e))
        ∙ sym (lt-ltb (length f.epilogues) 65536 (omega (arith, one_only (ends_with f) f.epilogues e)))
    by false e = refl

words_fit : (f : Function) → ltb (words_of f) (2 ^ 8) ≡ leb (length (codes_of f)) 1020
unfolding words_of
words_fit f = either (length (codes_of f)) 1020
    (λ h. lt-ltb ((length (codes_of f) + 3) / 4) (2 ^ 8) (omega (arith, h)) ∙ sym (le-leb (length (codes_of f)) 1020 h))
    (λ h. le-ltb ((length (codes_of f) + 3) / 4) (2 ^ 8) (omega (arith, h)) ∙ sym (lt-leb (length (codes_of f)) 1020 h))

module _ (fs es cs : List ℕ) (k : ℕ) where
  abbrev f : Function
  f = numbered_function fs es cs k

  abbrev p : Parts
  p = parts_at fs k

  many : length f.epilogues ≡ p.end - p.first
  many = ap length (epilogues_same fs es cs k) ∙ each-length (numbered_epilogue es cs) p.first (p.end - p.first)

  pub values_same : values_ok f ≡ parts_ok es cs p
  unfolding values_ok parts_ok
  values_same =
      simp (prologue_saves fs es cs k, fits_same fs es cs k, count_fits f, words_fit f, many, codes_same fs es cs k)

  pub length-same : size_ok f ≡ length_ok (field function_stride fs k 1)
  unfolding size_ok length_ok numbered_function
  length-same = refl

  module _ {q : Parts} (e : q ≡ p) where
    pub starts_are : {b : Bool} → b ≡ all_in (start_ok_at es (field function_stride fs k 1)) q.first (q.end - q.first) → b ≡ all (start_ok f) f.epilogues
    unfolding numbered_function
    starts_are g =
        g ∙ ap (λ (z : Parts). all_in (start_ok_at es (field function_stride fs k 1)) z.first (z.end - z.first)) e ∙ sym (starts_same fs es cs k)

    pub values_are : {b : Bool} → b ≡ parts_ok es cs q → b ≡ values_ok f
    values_are g = g ∙ ap (parts_ok es cs) e ∙ sym values_same

-- ---- the parts by their answers

held_some : (d : ℕ) → is_some (held_to d) ≡ leb d 1020
unfolding held_to pick
held_some d = either d 1020 (λ l. simp (le-leb d 1020 l)) λ l. simp (lt-leb d 1020 l)

module _ (es cs : List ℕ) (p : Parts) where
  pub no_prologue : run_fits no_pair (saves cs p.prologue) ≡ false → false ≡ parts_ok es cs p
  unfolding parts_ok
  no_prologue e = simp e

  module _ (e : run_fits no_pair (saves cs p.prologue) ≡ true) where
    pub no_epilogue : all_in (fits_at es cs) p.first (p.end - p.first) ≡ false → false ≡ parts_ok es cs p
    unfolding parts_ok
    no_epilogue g = simp (e, g)

    module _ (g : all_in (fits_at es cs) p.first (p.end - p.first) ≡ true) where
      pub too_many : 65535 < p.end - p.first → false ≡ parts_ok es cs p
      unfolding parts_ok
      too_many h = simp (e, g, le-ltb (p.end - p.first) 65536 (omega (arith, h)))

      pub by_size : {r : Option ℕ} → p.end - p.first ≤ 65535 → r ≡ held_to (length (codes_in es cs p)) → is_some r ≡ parts_ok es cs p
      unfolding parts_ok
      by_size {r} h s = ap is_some s ∙ held_some (length (codes_in es cs p)) ∙ simp (e, g, lt-ltb (p.end - p.first) 65536 (omega (arith, h)))
