-- Function k of the lists as the definitions have it, and as the code goes over it.
use mathlib.Core.Path.{◌≡◌, refl, subst, sym, ap, ◌∙◌}
use mathlib.Core.Bool.{Bool, true, ◌&&◌}
use mathlib.Core.List.{List, [], ◌∷◌, ◌++◌, map}
use Prim.Native.Nat.{ℕ, zero, suc, ◌+◌, ◌-◌, ◌*◌, ◌/◌, ◌^◌, ◌≤◌, ◌<◌}
use native.Mathlib.Omega.{arith}
use lib.Dec.{T, leb}
use lib.ListN.{length}
use borrow.Author.Tests.{leb-true}
use Rattle.format.specs.Prelude.{pick, each, all}
use Rattle.format.specs.Lists.{field, count, inside, all_in, symbol_ok}
use Rattle.format.proofs.ListLaws.{in_range, map_each}
use Rattle.format.proofs.Choice.{is_true}
use Rattle.arm64.specs.Lists.{Function, function_stride, epilogue_stride, numbered_code, numbered_epilogue, numbered_function}
use Rattle.arm64.specs.Meaning.{reverse}
use Rattle.arm64.specs.Runs.{no_pair, simplify, run_fits, own_runs, run_bytes, runs_bytes, index_of}
use Rattle.arm64.specs.Writer.{codes_ok_in, code_ok_at, epilogue_ok_at, function_ok_at, prologue_run, epilogue_run, epilogue_runs, own_of, codes_of, index_in, start_ok}
use Rattle.arm64_simple.specs.Saves.{place_of, saved_at, saves, Inside}
use Rattle.arm64_function.specs.declared.Parts.{Parts}
use Rattle.arm64.specs.declared.Part.{Part}
use Rattle.arm64.specs.declared.Part.TheVariants as part
use Rattle.arm64_function.specs.Listed.{Listed}
use Rattle.arm64_function.specs.Own.{prologue_at, epilogue_at, parts_at, Ready, prologue_in, run_at, own_in, codes_in, index_at, start_ok_at, fits_at}
use Rattle.std.proofs.lemmas.Bool.{and_parts}

-- ---- a function at each number of a range

module _ {A : Type 0} where
  each_moved : (f g : ℕ → A) (d at n : ℕ) → ((j : ℕ) → f j ≡ g (d + j)) → each f at n ≡ each g (d + at) n
  unfolding each
  each_moved f g d at zero h = refl
  each_moved f g d at (suc n) h =
      let e : d + suc at ≡ suc (d + at) = omega arith in
      ap (λ x. x ∷ each f (suc at) n) (h at) ∙ ap (λ l. g (d + at) ∷ l) (each_moved f g d (suc at) n h ∙ ap (λ (i : ℕ). each g i n) e)

  pub each_same : (f g : ℕ → A) (at n : ℕ) → ((j : ℕ) → at ≤ j → j < at + n → f j ≡ g j) → each f at n ≡ each g at n
  unfolding each
  each_same f g at zero h = refl
  each_same f g at (suc n) h =
      ap (λ x. x ∷ each f (suc at) n) (h at (omega arith) (omega arith))
      ∙ ap (λ l. g at ∷ l) (each_same f g (suc at) n (λ j a b. h j (omega arith) (omega arith)))

  each_last : (f : ℕ → A) (at n : ℕ) → each f at (suc n) ≡ each f at n ++ (f (at + n) ∷ [])
  unfolding each
  each_last f at zero = ap (λ (i : ℕ). f i ∷ []) (omega arith)
  each_last f at (suc n) =
      let e : suc at + n ≡ at + suc n = omega arith in
      ap (λ l. f at ∷ l) (each_last f (suc at) n ∙ ap (λ (i : ℕ). each f (suc at) n ++ (f i ∷ [])) e)

  -- backwards
  each_back : (g : ℕ → A) (at n : ℕ) → each (λ j. g (at + (n - (j + 1)))) 0 n ≡ reverse (each g at n)
  unfolding each reverse
  each_back g at zero = refl
  each_back g at (suc n) =
      let e : at + (suc n - (0 + n + 1)) ≡ at = omega arith in
      each_last (λ j. g (at + (suc n - (j + 1)))) 0 n
      ∙ ap (λ (i : ℕ). each (λ j. g (at + (suc n - (j + 1)))) 0 n ++ (g i ∷ [])) e
      ∙ ap (λ l. l ++ (g at ∷ [])) (each_same (λ j. g (at + (suc n - (j + 1)))) (λ j. g (suc at + (n - (j + 1)))) 0 n (λ j a b. ap g (omega arith)) ∙ each_back g (suc at) n)

pub all_each : {A : Type 0} (test : A → Bool) (at_test : ℕ → Bool) (f : ℕ → A) (at n : ℕ) → ((i : ℕ) → test (f i) ≡ at_test i)
    → all test (each f at n) ≡ all_in at_test at n
unfolding each all all_in
all_each test at_test f at zero h = refl
all_each test at_test f at (suc n) h =
    ap (λ b. b && all test (each f (suc at) n)) (h at) ∙ ap (λ b. at_test at && b) (all_each test at_test f (suc at) n h)

-- ---- runs

pub saves_forward : (cs : List ℕ) (at count : ℕ) → saves cs (record { at = at; count = count; part = part.Prologue }) ≡ each (numbered_code cs) at count
unfolding saves saved_at place_of pick
saves_forward cs at count =
    let e : at + 0 ≡ at = omega arith in
    each_moved (λ j. numbered_code cs (at + j)) (numbered_code cs) at 0 count (λ j. refl) ∙ ap (λ (i : ℕ). each (numbered_code cs) i count) e

pub saves_back : (cs : List ℕ) (at count : ℕ) → saves cs (record { at = at; count = count; part = part.Epilogue }) ≡ reverse (each (numbered_code cs) at count)
unfolding saves saved_at place_of pick
saves_back cs at count = each_back (numbered_code cs) at count

pub epilogue_saves : (es cs : List ℕ) (i : ℕ) → reverse (numbered_epilogue es cs i).codes ≡ saves cs (epilogue_at es i)
unfolding numbered_epilogue epilogue_at
epilogue_saves es cs i = sym (saves_back cs (field epilogue_stride es i 1) (field epilogue_stride es i 2))

pub epilogue_run_lem : (es cs : List ℕ) (i : ℕ) → epilogue_run (numbered_epilogue es cs i) ≡ run_at es cs i
unfolding epilogue_run run_at
epilogue_run_lem es cs i = ap (simplify no_pair) (epilogue_saves es cs i)

module _ (fs es cs : List ℕ) (k : ℕ) where
  abbrev pub f : Function
  f = numbered_function fs es cs k

  abbrev pub p : Parts
  p = parts_at fs k

  pub prologue_saves : f.prologue ≡ saves cs p.prologue
  unfolding numbered_function parts_at prologue_at
  prologue_saves = sym (saves_forward cs (field function_stride fs k 2) (field function_stride fs k 3))

  pub prologue_same : prologue_run f ≡ prologue_in cs p
  unfolding prologue_run prologue_in
  prologue_same = ap (simplify no_pair) prologue_saves

  pub epilogues_same : f.epilogues ≡ each (numbered_epilogue es cs) p.first (p.end - p.first)
  unfolding numbered_function parts_at
  epilogues_same =
      let e : field function_stride fs k 5 ≡ field function_stride fs k 4 + field function_stride fs k 5 - field function_stride fs k 4 = omega arith in
      ap (each (numbered_epilogue es cs) (field function_stride fs k 4)) e

  pub runs_same : epilogue_runs f ≡ each (run_at es cs) p.first (p.end - p.first)
  unfolding epilogue_runs
  runs_same =
      ap (map epilogue_run) epilogues_same ∙ map_each epilogue_run (numbered_epilogue es cs) p.first (p.end - p.first)
      ∙ each_same (λ i. epilogue_run (numbered_epilogue es cs i)) (run_at es cs) p.first (p.end - p.first) (λ i a b. epilogue_run_lem es cs i)

  pub own_same : own_of f ≡ own_in es cs p
  unfolding own_of own_in
  own_same = ap (λ q. own_runs q [] (epilogue_runs f)) prologue_same ∙ ap (own_runs (prologue_in cs p) []) runs_same

  pub codes_same : codes_of f ≡ codes_in es cs p
  unfolding codes_of codes_in
  codes_same = ap (λ q. run_bytes q ++ runs_bytes (own_of f)) prologue_same ∙ ap (λ o. run_bytes (prologue_in cs p) ++ runs_bytes o) own_same

  pub index_same : (i : ℕ) → index_in f (numbered_epilogue es cs i) ≡ index_at es cs p i
  unfolding index_in index_at
  index_same i =
      ap (λ q. index_of q (own_of f) (epilogue_run (numbered_epilogue es cs i))) prologue_same
      ∙ ap (λ o. index_of (prologue_in cs p) o (epilogue_run (numbered_epilogue es cs i))) own_same
      ∙ ap (index_of (prologue_in cs p) (own_in es cs p)) (epilogue_run_lem es cs i)

  pub starts_same : all (start_ok f) f.epilogues ≡ all_in (start_ok_at es f.size) p.first (p.end - p.first)
  unfolding start_ok start_ok_at numbered_epilogue
  starts_same =
      ap (all (start_ok f)) epilogues_same
      ∙ all_each (start_ok f) (start_ok_at es f.size) (numbered_epilogue es cs) p.first (p.end - p.first) (λ i. refl)

  pub fits_same : all (λ e. run_fits no_pair (reverse e.codes)) f.epilogues ≡ all_in (fits_at es cs) p.first (p.end - p.first)
  unfolding fits_at
  fits_same =
      ap (all (λ e. run_fits no_pair (reverse e.codes))) epilogues_same
      ∙ all_each (λ e. run_fits no_pair (reverse e.codes)) (fits_at es cs) (numbered_epilogue es cs) p.first (p.end - p.first)
      (λ i. ap (run_fits no_pair) (epilogue_saves es cs i))

-- ---- the lists hold it

module _ {fs es cs : List ℕ} {k : ℕ} (l : Listed fs es cs k) (short : length cs * 8 < 2 ^ 63) where
  codes_inside : (at n : ℕ) → codes_ok_in cs at n ≡ true → at + n ≤ length cs / 3
  unfolding codes_ok_in inside
  codes_inside at n e = leb-true (at + n) (length cs / 3) (and_parts (leb (at + n) (length cs / 3)) (all_in (code_ok_at cs) at n) e).0

  inside_of : (at n : ℕ) (b : Part) → codes_ok_in cs at n ≡ true → Inside cs (record { at = at; count = n; part = b })
  inside_of at n b e = let h = codes_inside at n e in record { room = omega (arith, h); low = omega (arith, h) }

  record Says : Type 0 where
    prologue : codes_ok_in cs (field function_stride fs k 2) (field function_stride fs k 3) ≡ true
    range : field function_stride fs k 4 + field function_stride fs k 5 ≤ length es / 3
    epilogues : all_in (epilogue_ok_at es cs) (field function_stride fs k 4) (field function_stride fs k 5) ≡ true

  says : Says
  unfolding function_ok_at inside
  says =
      let g : ℕ → ℕ = λ j. field function_stride fs k j in
      let a = and_parts (symbol_ok (g 0) && codes_ok_in cs (g 2) (g 3) && leb (g 4 + g 5) (length es / 3)) (all_in (epilogue_ok_at es cs) (g 4) (g 5)) l.ok in
      let b = and_parts (symbol_ok (g 0) && codes_ok_in cs (g 2) (g 3)) (leb (g 4 + g 5) (length es / 3)) a.0 in
      let d = and_parts (symbol_ok (g 0)) (codes_ok_in cs (g 2) (g 3)) b.0 in
      record { prologue = d.1; range = leb-true (g 4 + g 5) (length es / 3) b.1; epilogues = a.1 }

  pub in_list : field function_stride fs k 4 + field function_stride fs k 5 ≤ length es / 3
  in_list = says.range

  epilogue_inside : (i : ℕ) → field function_stride fs k 4 ≤ i → i < field function_stride fs k 4 + field function_stride fs k 5 → Inside cs (epilogue_at es i)
  unfolding epilogue_at epilogue_ok_at
  epilogue_inside i a b =
      let at = field function_stride fs k 4 in
      let e : at + (i - at) ≡ i = omega (arith, a) in
      let t = in_range (epilogue_ok_at es cs) at (field function_stride fs k 5) (i - at) (subst T (sym says.epilogues) tt) (omega (arith, a, b)) in
      inside_of (field epilogue_stride es i 1) (field epilogue_stride es i 2) part.Epilogue (is_true (epilogue_ok_at es cs i) (subst (λ (j : ℕ). T (epilogue_ok_at es cs j)) e t))

  pub ready : Ready es cs (parts_at fs k)
  unfolding parts_at prologue_at
  ready =
      record {
        prologue = inside_of (field function_stride fs k 2) (field function_stride fs k 3) part.Prologue says.prologue;
        order = omega arith;
        room = omega (arith, says.range);
        inside = epilogue_inside;
      }
