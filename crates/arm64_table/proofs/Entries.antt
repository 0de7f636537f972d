-- Question 13 of the lists: what it says of each function, and the answers that it leads to.
use mathlib.Core.Path.{◌≡◌, refl, sym, ap}
use Prim.Native.Nat.{ℕ, ◌+◌, ◌*◌, ◌^◌, ◌<◌}
use native.Mathlib.Omega.{arith}
use mathlib.Core.Bool.{true, false}
use mathlib.Core.List.{List, [], ◌∷◌}
use lib.Dec.{T, leb, leb→le}
use lib.ListN.{get_or}
use borrow.Author.Tests.{eq-eqb, ne_eqb}
use Rattle.std.specs.Prelude.{None, Ok, Err}
use Rattle.format.specs.Prelude.{pick}
use Rattle.format.specs.Lists.{field, count, most_functions, most_records, sum_of, inside, symbol_ok, all_in}
use Rattle.format.specs.Questions.{Room, ask, unless, fitting, per_function}
use Rattle.format.specs.Answers.{outcome_of, afterwards, Writes}
use Rattle.format.proofs.ListLaws.{chained, part_of, at_each, symbol_small}
use Rattle.format.proofs.Choice.{is_true, is_yes_lem}
use Rattle.arm64.specs.Lists.{function_stride, epilogue_stride, numbered_function, functions_of}
use Rattle.arm64.specs.Writer.{codes_ok_in, epilogue_ok_at, function_ok_at, codes_in, lists_ok, function_asks, arm64, arm64_answer}
use Rattle.arm64_function.specs.Listed.{Listed}
use Rattle.arm64_table.specs.Tables.{first_of, AllListed}

module _ (fs es cs : List ℕ) where
  -- a function's symbol, as the code reads it
  pub symbol_at : (k : ℕ) → get_or fs (6 * k) 0 ≡ (numbered_function fs es cs k).symbol
  unfolding numbered_function
  symbol_at k = let e : 6 * k ≡ 6 * k + 0 = omega arith in ap (λ (i : ℕ). get_or fs i 0) e

  pub symbol_low : {k : ℕ} → Listed fs es cs k → (numbered_function fs es cs k).symbol < 2 ^ 32
  unfolding function_ok_at numbered_function
  symbol_low {k} l =
      let f : ℕ → ℕ = λ j. field function_stride fs k j in
      symbol_small (f 0)
      (chained (symbol_ok (f 0)) (codes_ok_in cs (f 2) (f 3) ∷ inside (f 4) (f 5) (count epilogue_stride es) ∷ all_in (epilogue_ok_at es cs) (f 4) (f 5) ∷ []) 0
      (is_yes_lem l.ok))

  says : T (lists_ok fs es cs)
      → (k : ℕ) → T (get_or (leb (count function_stride fs) most_functions ∷ leb (sum_of (λ k. field function_stride fs k 5) 0 (count function_stride fs)) most_records ∷ leb (sum_of (codes_in fs es) 0 (count function_stride fs)) most_records ∷ all_in (function_ok_at fs es cs) 0 (count function_stride fs) ∷ []) k true)
  unfolding lists_ok
  says t k =
      let n : ℕ = count function_stride fs in
      chained (leb n most_functions) (
      leb (sum_of (λ k. field function_stride fs k 5) 0 n) most_records ∷ leb (sum_of (codes_in fs es) 0 n) most_records
      ∷ all_in (function_ok_at fs es cs) 0 n ∷ []) k t

  pub all_listed : lists_ok fs es cs ≡ true → AllListed fs es cs (count function_stride fs)
  all_listed e =
      let n : ℕ = count function_stride fs in
      let say = says (is_yes_lem e) in
      record {
        most = leb→le n most_functions (say 0);
        each_one = λ k h. record {
          room = omega arith;
          ok = is_true (function_ok_at fs es cs k) (at_each (function_ok_at fs es cs) n k (say 3) h);
          few_epilogues = omega (
            arith,
            part_of (λ k. field function_stride fs k 5) n k h,
            leb→le (sum_of (λ k. field function_stride fs k 5) 0 n) most_records (say 1),
          );
          few_codes = omega (arith, part_of (codes_in fs es) n k h, leb→le (sum_of (codes_in fs es) 0 n) most_records (say 2));
        };
      }

module _ (fs es cs : List ℕ) (r : Room) where
  pub table_empty : {places bytes relocations sites : List ℕ} → count function_stride fs ≡ 0
      → Writes (arm64_answer fs es cs r) (Ok None) places places bytes bytes relocations relocations sites sites
  unfolding arm64_answer outcome_of afterwards pick
  table_empty e = rw (eq-eqb (count function_stride fs) 0 e) (record { outcome = refl; placed = refl; stored = refl; related = refl; sited = refl })

  module _ (some-there : count function_stride fs ≡ 0 → ⊥) where
    pub table_refused : {places bytes relocations sites : List ℕ} → lists_ok fs es cs ≡ false
        → Writes (arm64_answer fs es cs r) (Err (13, 0)) places places bytes bytes relocations relocations sites sites
    unfolding arm64_answer outcome_of afterwards pick ask unless
    table_refused e =
        rw (ne_eqb (count function_stride fs) 0 some-there, e)
        (record { outcome = refl; placed = refl; stored = refl; related = refl; sited = refl })

    pub table_answers : lists_ok fs es cs ≡ true
        → unless (per_function function_asks 0 (first_of fs es cs (count function_stride fs))) (fitting r (arm64 (first_of fs es cs (count function_stride fs))))
        ≡ arm64_answer fs es cs r
    unfolding arm64_answer pick ask unless functions_of
    table_answers e = sym (rw (ne_eqb (count function_stride fs) 0 some-there, e))
