-- The definitions' answers by the passes over the functions, for direct codes and for rows.
use mathlib.Core.Path.{◌≡◌, refl, sym}
use Prim.Native.Nat.{ℕ, zero, suc, ◌+◌, ◌^◌, ◌<◌}
use native.Mathlib.Omega.{arith}
use mathlib.Core.Bool.{Bool, true, false}
use mathlib.Core.Option.{Option, none, some}
use mathlib.Core.List.{List, [], ◌∷◌}
use lib.Dec.{T, leb, ltb, leb→le}
use lib.ListN.{get_or}
use borrow.Author.Tests.{eq-eqb, ne_eqb}
use Rattle.format.specs.Prelude.{pick, each}
use Rattle.format.specs.Lists.{field, count, prologue_stride, code_stride, most_functions, most_records, sum_of, inside, symbol_ok, all_in, code_ok_at, prologue_ok_at, codes_ok, prologue_at, prologues_of}
use Rattle.format.specs.X64.{x64}
use Rattle.format.specs.Questions.{Question, Room, Answer, ask, and_then, no_at, unless, fitting, per_function, code_asks, codes_answer, short_ones, seh}
use Rattle.std.specs.Prelude.{None, Ok, Err}
use Rattle.format.specs.Answers.{outcome_of, afterwards, Writes}
use Rattle.format.proofs.ListLaws.{chained, part_of, at_each, symbol_small, within}
use Rattle.x64.specs.declared.given.Source.TheVariants.{Direct}
use Rattle.x64.specs.Answers.{ask_each}
use Rattle.x64.specs.Listed.{stride_of, Listed, ListedAt}
use Rattle.x64.specs.Sources.{result_at, long_no, rows_no, codes_no, length_at, rows_at, codes_at, or_none, asks_of, table_of}

-- ---- questions

pub unless_then : (a b : Question) (x : Answer) → unless (and_then a b) x ≡ unless a (unless b x)
unfolding unless and_then
unless_then none b x = refl
unless_then (some r) b x = refl

pub per_each : {A : Type 0} (q : ℕ → A → Question) (f : ℕ → A) (g : ℕ → Option ℕ) (at n : ℕ) → ((k : ℕ) → k < at + n → q k (f k) ≡ no_at k (g k))
    → per_function q at (each f at n) ≡ ask_each g at n
unfolding per_function each ask_each
per_each q f g at zero h = refl
per_each q f g at (suc n) h = rw (h at (omega arith), per_each q f g (suc at) n (λ k l. h k (omega arith)))

none_each : (g : ℕ → Option ℕ) (at n : ℕ) → ((k : ℕ) → g k ≡ none) → ask_each g at n ≡ none
unfolding ask_each no_at and_then
none_each g at zero h = refl
none_each g at (suc n) h = rw (h at) (none_each g (suc at) n h)

ask_pick : (b : Bool) (k : ℕ) → ask b 21 k ≡ no_at k (pick b none (some 21))
unfolding ask pick no_at
ask_pick true k = refl
ask_pick false k = refl

pub ask_long : (size k : ℕ) → ask (ltb size (2 ^ 32)) 21 k ≡ no_at k (long_no size)
unfolding long_no
ask_long size k = ask_pick (ltb size (2 ^ 32)) k

-- ---- direct codes

module _ (fs codes : List ℕ) where
  abbrev n : ℕ
  n = count prologue_stride fs

  direct_long : short_ones (λ p. p.size) (prologues_of fs codes) ≡ ask_each (length_at Direct fs) 0 n
  unfolding short_ones prologues_of stride_of prologue_at
  direct_long = per_each _ (prologue_at fs codes) (length_at Direct fs) 0 n (λ k l. ask_long (field prologue_stride fs k 1) k)

  direct_rows : ask_each (rows_at Direct fs codes) 0 n ≡ none
  unfolding result_at rows_no
  direct_rows = none_each (rows_at Direct fs codes) 0 n (λ k. refl)

  direct_codes : code_asks (prologues_of fs codes) ≡ ask_each (codes_at Direct fs codes) 0 n
  unfolding code_asks prologues_of result_at codes_no
  direct_codes = per_each _ (prologue_at fs codes) (codes_at Direct fs codes) 0 n (λ k l. refl)

  direct_table : x64 (prologues_of fs codes) ≡ table_of Direct fs codes n
  unfolding prologues_of result_at or_none
  direct_table = refl

  pub direct_answer : (r : Room) → unless (short_ones (λ p. p.size) (prologues_of fs codes)) (codes_answer (prologues_of fs codes) r)
      ≡ unless (asks_of Direct fs codes n) (fitting r (table_of Direct fs codes n))
  unfolding codes_answer asks_of and_then
  direct_answer r =
      rw (direct_long, direct_codes, direct_table, direct_rows)
      (sym (unless_then (ask_each (length_at Direct fs) 0 n) (ask_each (codes_at Direct fs codes) 0 n) (fitting r (table_of Direct fs codes n))))

module _ (fs codes : List ℕ) (t : T (codes_ok fs codes)) where
  says : (k : ℕ) → T (get_or (leb (count prologue_stride fs) most_functions ∷ leb (sum_of (λ k. field prologue_stride fs k 4) 0 (count prologue_stride fs)) most_records ∷ all_in (prologue_ok_at fs codes) 0 (count prologue_stride fs) ∷ []) k true)
  unfolding codes_ok
  says k = chained (leb (count prologue_stride fs) most_functions) (leb (sum_of (λ k. field prologue_stride fs k 4) 0 (count prologue_stride fs)) most_records ∷ all_in (prologue_ok_at fs codes) 0 (count prologue_stride fs) ∷ []) k t

  tells : (k : ℕ) → k < count prologue_stride fs → (j : ℕ) → T (get_or (symbol_ok (field prologue_stride fs k 0) ∷ inside (field prologue_stride fs k 3) (field prologue_stride fs k 4) (count code_stride codes) ∷ all_in (code_ok_at codes) (field prologue_stride fs k 3) (field prologue_stride fs k 4) ∷ []) j true)
  unfolding prologue_ok_at
  tells k h j = chained (symbol_ok (field prologue_stride fs k 0)) (inside (field prologue_stride fs k 3) (field prologue_stride fs k 4) (count code_stride codes) ∷ all_in (code_ok_at codes) (field prologue_stride fs k 3) (field prologue_stride fs k 4) ∷ []) j (at_each (prologue_ok_at fs codes) (count prologue_stride fs) k (says 2) h)

  pub direct_listed : Listed Direct fs codes (count prologue_stride fs)
  unfolding stride_of ListedAt
  direct_listed = record {
    most = leb→le (count prologue_stride fs) most_functions (says 0);
    whole = omega arith;
    each_one = λ k h. record {
      within = omega arith;
      symbol = symbol_small (field prologue_stride fs k 0) (tells k h 0);
      records = (within (field prologue_stride fs k 3) (field prologue_stride fs k 4) (count code_stride codes) (tells k h 1), omega (arith, part_of (λ i. field prologue_stride fs i 4) (count prologue_stride fs) k h, leb→le (sum_of (λ i. field prologue_stride fs i 4) 0 (count prologue_stride fs)) most_records (says 1)));
    };
  }

module _ (fs codes : List ℕ) (r : Room) where
  pub seh_empty : {places bytes relocations sites : List ℕ} → count prologue_stride fs ≡ 0
      → Writes (seh fs codes r) (Ok None) places places bytes bytes relocations relocations sites sites
  unfolding seh outcome_of afterwards pick
  seh_empty e = rw (eq-eqb (count prologue_stride fs) 0 e) (record { outcome = refl; placed = refl; stored = refl; related = refl; sited = refl })

  module _ (some-there : count prologue_stride fs ≡ 0 → ⊥) where
    pub seh_refused : {places bytes relocations sites : List ℕ} → codes_ok fs codes ≡ false
        → Writes (seh fs codes r) (Err (13, 0)) places places bytes bytes relocations relocations sites sites
    unfolding seh outcome_of afterwards pick ask unless
    seh_refused e =
        rw (ne_eqb (count prologue_stride fs) 0 some-there, e) (record { outcome = refl; placed = refl; stored = refl; related = refl; sited = refl })

    pub seh_answers : codes_ok fs codes ≡ true
        → unless (asks_of Direct fs codes (count prologue_stride fs)) (fitting r (table_of Direct fs codes (count prologue_stride fs))) ≡ seh fs codes r
    unfolding seh pick ask unless
    seh_answers e = sym (rw (ne_eqb (count prologue_stride fs) 0 some-there, e) (direct_answer fs codes r))
