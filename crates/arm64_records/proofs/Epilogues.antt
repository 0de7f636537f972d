-- The loops over the epilogues that a word stands for each: what they know at each turn.
use mathlib.Core.Path.{◌≡◌, refl, sym, ap, ◌∙◌}
use mathlib.Core.Option.{Option, none, some}
use mathlib.Core.List.{List, [], ◌∷◌, ◌++◌}
use Prim.Native.Nat.{ℕ, zero, suc, ◌+◌, ◌-◌, ◌*◌, ◌/◌, ◌%◌, ◌≤◌, ◌<◌}
use native.Mathlib.Omega.{arith}
use native.Mathlib.Numerals.{add-one}
use lib.ListN.{length, length-append}
use Rattle.format.specs.Prelude.{after}
use Rattle.format.proofs.Storing.{Storing, stored_next}
use Rattle.format.proofs.Storing as storing
use Rattle.arm64.specs.declared.Code.{Code}
use Rattle.arm64.specs.Lists.{Epilogue, code_numbers, epilogue_numbers}
use Rattle.arm64.specs.Records.{scope_start, scope_index}
use Rattle.arm64.specs.Reader.{in_front, run_at, epilogue, scoped, epilogue_codes}
use Rattle.arm64_runs.specs.Runs.{count_of, codes_in}
use Rattle.arm64_runs.proofs.Stores.{code_numbers-length, code_numbers-append}
use Rattle.arm64_records.specs.Parts.{words_from, total_of, epilogues_in, Listed, Placed}

-- ---- the words

pub scoped_same : (f g : ℕ → ℕ) (codes : List ℕ) (k n : ℕ) → ((j : ℕ) → f j ≡ g j) → scoped f codes k n ≡ scoped g codes k n
unfolding scoped
scoped_same f g codes k zero h = refl
scoped_same f g codes k (suc n) h = rw (h k, scoped_same f g codes (suc k) n h)

-- ---- a run that was counted

pub counted_run : (x : Option (List Code)) {m : ℕ} → count_of x ≡ some m → (x ≡ some (codes_in x)) × (length (codes_in x) ≡ m)
unfolding count_of codes_in
counted_run none e = absurd cc
counted_run (some cs) e = (refl, cc)

pub no_run : (x : Option (List Code)) → count_of x ≡ none → x ≡ none
unfolding count_of
no_run none e = refl
no_run (some cs) e = absurd cc

-- ---- the count

-- the codes of epilogues behind n codes
more : ℕ → Option (List Epilogue) → Option ℕ
more n none = none
more n (some es) = some (n + length (epilogue_codes es))

more_first : (x : Option (List Epilogue)) → total_of x ≡ more 0 x
unfolding total_of more
more_first none = refl
more_first (some es) = ap some (omega arith)

more_next : (n : ℕ) (e : Epilogue) (x : Option (List Epilogue)) → more n (in_front e x) ≡ more (n + length e.codes) x
unfolding more in_front epilogue_codes
more_next n e none = refl
more_next n e (some es) = ap some (omega (arith, length-append e.codes (epilogue_codes es)))

module _ (word : ℕ → ℕ) (codes : List ℕ) where
  -- one epilogue further
  scoped_on : (k n : ℕ) {cs : List Code} → run_at codes (scope_index (word k)) ≡ some cs
      → scoped word codes k (suc n) ≡ in_front (epilogue (4 * scope_start (word k)) cs) (scoped word codes (suc k) n)
  unfolding scoped after
  scoped_on k n e = rw e

  scoped_none : (k n : ℕ) → run_at codes (scope_index (word k)) ≡ none → scoped word codes k (suc n) ≡ none
  unfolding scoped after
  scoped_none k n e = rw e

  front_length : (n : ℕ) (d : Epilogue) {es : List Epilogue} (y : Option (List Epilogue)) → ((us : List Epilogue) → y ≡ some us → length us ≡ n)
      → in_front d y ≡ some es → length es ≡ suc n
  unfolding in_front
  front_length n d none h e = absurd cc
  front_length n d {es} (some us) h e = let z : es ≡ d ∷ us = cc in ap length z ∙ ap suc (h us refl)

  scoped_length_of : (k n : ℕ) (x : Option (List Code)) {es : List Epilogue} → run_at codes (scope_index (word k)) ≡ x
      → ((us : List Epilogue) → scoped word codes (suc k) n ≡ some us → length us ≡ n) → scoped word codes k (suc n) ≡ some es → length es ≡ suc n
  scoped_length_of k n none r h e = absurd (cc (scoped_none k n r, e))
  scoped_length_of k n (some cs) r h e = front_length n (epilogue (4 * scope_start (word k)) cs) (scoped word codes (suc k) n) h (sym (scoped_on k n r) ∙ e)

  -- as many epilogues as words
  pub scoped-length : (k n : ℕ) (es : List Epilogue) → scoped word codes k n ≡ some es → length es ≡ n
  unfolding scoped
  scoped-length k zero [] e = refl
  scoped-length k zero (d ∷ es) e = absurd cc
  scoped-length k (suc n) es e = scoped_length_of k n (run_at codes (scope_index (word k))) refl (scoped-length (suc k) n) e

  pub record Totalling (count k n : ℕ) : Type 0 where
    pub small : n ≤ 1020 * k
    same : total_of (scoped word codes 0 count) ≡ more n (scoped word codes k (count - k))

  pub total_start : (count : ℕ) → Totalling count 0 0
  total_start count = let z : count - 0 ≡ count = omega arith in
      record { small = omega arith; same = rw z (more_first (scoped word codes 0 count)) }

  module _ {count k n : ℕ} (i : Totalling count k n) where
    pub total_turn : {m : ℕ} → k < count → count_of (run_at codes (scope_index (word k))) ≡ some m → m ≤ 1020 → Totalling count (k + 1) (n + m)
    unfolding epilogue
    total_turn {m} h e l =
        let r = counted_run (run_at codes (scope_index (word k))) e in
        let z : count - k ≡ suc (count - (k + 1)) = omega arith in
        record {
          small = omega (arith, i.small);
          same =
              i.same
              ∙ rw (z, scoped_on k (count - (k + 1)) r.0, more_next n (epilogue (4 * scope_start (word k)) (codes_in (run_at codes (scope_index (word k))))) (scoped word codes (suc k) (count - (k + 1))), r.1, add-one k) refl;
        }

    pub total_refused : k < count → count_of (run_at codes (scope_index (word k))) ≡ none → total_of (scoped word codes 0 count) ≡ none
    unfolding more
    total_refused h e =
        let z : count - k ≡ suc (count - (k + 1)) = omega arith in
        i.same ∙ rw (z, scoped_none k (count - (k + 1)) (no_run (run_at codes (scope_index (word k))) e)) refl

    pub total_ended : count ≤ k → total_of (scoped word codes 0 count) ≡ some n
    unfolding more scoped epilogue_codes
    total_ended h =
        let z : count - k ≡ 0 = omega arith in
        let y : n + 0 ≡ n = omega arith in
        i.same ∙ rw z (ap some y)

  -- ---- the epilogues stored

  -- es₀ and cs₀ are es and cs by now, epilogue k is next, and its codes go behind `at` codes
  pub record Listing (es₀ es cs₀ cs : List ℕ) (n count k at : ℕ) : Type 0 where
    pub rest : List Epilogue
    pub left : scoped word codes k (count - k) ≡ some rest
    pub numbers : Storing es₀ es 0 (3 * k) (epilogue_numbers n (epilogues_in (scoped word codes 0 count))) (epilogue_numbers at rest)
    pub runs : Storing cs₀ cs (3 * n) (3 * at) (code_numbers (epilogue_codes (epilogues_in (scoped word codes 0 count)))) (code_numbers (epilogue_codes rest))

  pub numbers_length : (at : ℕ) (es : List Epilogue) → length (epilogue_numbers at es) ≡ 3 * length es
  unfolding epilogue_numbers
  numbers_length at [] = refl
  numbers_length at (e ∷ es) = omega (arith, numbers_length (at + length e.codes) es)

  pub list_start : {es cs : List ℕ} {n count : ℕ} → scoped word codes 0 count ≡ some (epilogues_in (scoped word codes 0 count)) → 3 * count ≤ length es
      → 3 * (n + length (epilogue_codes (epilogues_in (scoped word codes 0 count)))) ≤ length cs → Listing es es cs cs n count 0 n
  list_start {es} {cs} {n} {count} e h l =
      let z : count - 0 ≡ count = omega arith in
      record {
        rest = epilogues_in (scoped word codes 0 count);
        left = rw z e;
        numbers = storing.start (omega (arith, numbers_length n (epilogues_in (scoped word codes 0 count)), scoped-length 0 count (epilogues_in (scoped word codes 0 count)) e));
        runs = storing.start (omega (arith, code_numbers-length (epilogue_codes (epilogues_in (scoped word codes 0 count)))));
      }

  -- the run of the first of the epilogues left, and those behind it
  pub record Next (k m : ℕ) (rest : List Epilogue) : Type 0 where
    pub run : run_at codes (scope_index (word k)) ≡ some (codes_in (run_at codes (scope_index (word k))))
    pub behind : scoped word codes (suc k) m ≡ some (epilogues_in (scoped word codes (suc k) m))
    pub split : rest ≡ epilogue (4 * scope_start (word k)) (codes_in (run_at codes (scope_index (word k)))) ∷ epilogues_in (scoped word codes (suc k) m)

  front_some : {e : Epilogue} {rest : List Epilogue} (y : Option (List Epilogue)) → in_front e y ≡ some rest → (y ≡ some (epilogues_in y)) × (rest ≡ e ∷ epilogues_in y)
  unfolding in_front epilogues_in
  front_some none e = absurd cc
  front_some (some us) e = (refl, cc)

  run_of : (k m : ℕ) {rest : List Epilogue} (x : Option (List Code)) → run_at codes (scope_index (word k)) ≡ x → scoped word codes k (suc m) ≡ some rest
      → run_at codes (scope_index (word k)) ≡ some (codes_in (run_at codes (scope_index (word k))))
  unfolding codes_in
  run_of k m none r e = absurd (cc (scoped_none k m r, e))
  run_of k m (some cs) r e = rw r

  pub next_of : (k m : ℕ) {rest : List Epilogue} → scoped word codes k (suc m) ≡ some rest → Next k m rest
  next_of k m e =
      let r = run_of k m (run_at codes (scope_index (word k))) refl e in
      let f = front_some (scoped word codes (suc k) m) (sym (scoped_on k m r) ∙ e) in
      record { run = r; behind = f.0; split = f.1 }

  module _ {es₀ es cs₀ cs : List ℕ} {n count k at : ℕ} (i : Listing es₀ es cs₀ cs n count k at) where
    module _ (h : k < count) where
      one_less : count - k ≡ suc (count - (k + 1))
      one_less = omega arith

      pub here : Next k (count - (k + 1)) i.rest
      here = next_of k (count - (k + 1)) (rw one_less at i.left)

      numbers_split : epilogue_numbers at i.rest
          ≡ (4 * scope_start (word k) ∷ at ∷ length (codes_in (run_at codes (scope_index (word k)))) ∷ [])
          ++ epilogue_numbers (at + length (codes_in (run_at codes (scope_index (word k))))) (epilogues_in (scoped word codes (suc k) (count - (k + 1))))
      unfolding epilogue_numbers epilogue
      numbers_split = ap (epilogue_numbers at) here.split

      codes_split : code_numbers (epilogue_codes i.rest)
          ≡ code_numbers (codes_in (run_at codes (scope_index (word k)))) ++ code_numbers (epilogue_codes (epilogues_in (scoped word codes (suc k) (count - (k + 1)))))
      unfolding epilogue_codes epilogue
      codes_split = ap (λ (l : List Epilogue). code_numbers (epilogue_codes l)) here.split ∙ code_numbers-append _ _

      pub numbers_room : 3 * (k + 1) ≤ length es
      numbers_room = omega (arith, i.numbers.room, ap length numbers_split)

      pub codes_room : 3 * (at + length (codes_in (run_at codes (scope_index (word k))))) ≤ length cs
      codes_room =
          omega (
            arith,
            i.runs.room,
            ap length codes_split,
            length-append (code_numbers (codes_in (run_at codes (scope_index (word k))))) (code_numbers (epilogue_codes (epilogues_in (scoped word codes (suc k) (count - (k + 1)))))),
            code_numbers-length (codes_in (run_at codes (scope_index (word k)))),
          )

      pub list_turn : {es' cs' : List ℕ} {r : ℕ} → Placed es es' cs cs' k at r (4 * scope_start (word k)) (codes_in (run_at codes (scope_index (word k))))
          → Listing es₀ es' cs₀ cs' n count (k + 1) r
      list_turn p = record {
        rest = epilogues_in (scoped word codes (suc k) (count - (k + 1)));
        left = ap (λ (j : ℕ). scoped word codes j (count - (k + 1))) (add-one k) ∙ here.behind;
        numbers = rw p.behind (stored_next _ (rw numbers_split at i.numbers) p.numbers);
        runs = stored_next _ (rw codes_split at i.runs) p.codes;
      }

    pub list_ended : count ≤ k → Listed es₀ es cs₀ cs n (epilogues_in (scoped word codes 0 count))
    unfolding scoped epilogue_numbers epilogue_codes code_numbers
    list_ended h =
        let z : count - k ≡ 0 = omega arith in
        let e : i.rest ≡ [] = cc (rw z at i.left) in
        record { numbers = (storing.ended (rw e at i.numbers)).stored; codes = (storing.ended (rw e at i.runs)).stored }

-- ---- the fields of a word that was read

module _ (past k : ℕ) (s : List ℕ) {w : ℕ} (e : w ≡ words_from past s k) where
  pub index_is : w / 4194304 ≡ scope_index (words_from past s k)
  unfolding scope_index
  index_is = rw e

  pub start_is : 4 * (w % 262144) ≡ 4 * scope_start (words_from past s k)
  unfolding scope_start
  start_is = rw e
