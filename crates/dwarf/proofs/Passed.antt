-- What questions 11 to 25, answered by yes, say of each function.
use mathlib.Core.Path.{◌≡◌, refl, subst}
use Prim.Native.Nat.{ℕ, ◌+◌, ◌≤◌, ◌<◌}
use native.Mathlib.Omega.{arith}
use mathlib.Core.Bool.{Bool, true, false, ◌&&◌}
use mathlib.Core.List.{List, [], ◌∷◌}
use lib.Dec.{T, leb, eqb, leb→le}
use mir.Facts.{and_yes, or_yes, eqb_yes, eqb_no}
use mathlib.Core.Logic.{⊎_elim}
use Rattle.std.specs.Prelude.{Some, None, IfSome}
use Rattle.format.specs.Prelude.{pick}
use Rattle.format.specs.Lists.{field, function_stride, row_stride, landing_stride, pair_stride, count, mark, inside, symbol_ok, mark_ok, when_marked, row_ok_at, pair_ok_at, pointer_ok, all_in, function_ok_at, sum_of, pairs_in, lists_ok, most_functions, most_records}
use Rattle.format.specs.declared.Section.{Section}
use Rattle.format.specs.declared.Section.TheVariants.{Elf, Debug}
use Rattle.format.proofs.Choice.{pick_yes}
use Rattle.format.proofs.ListLaws.{chained, in_range, part_of, within}
use Rattle.lists.specs.declared.Personality.{Personality}
use Rattle.lists.specs.declared.Labels.{Labels}
use Rattle.lists.specs.declared.Extent.{Extent}
use Rattle.lists.specs.Extents.{marked, lsda_at, personality_at, labels_at, extent_at}
use Rattle.lists.specs.Parts.{ranges_ok_at, named_ok_at, relaxed_ok_at, outline_ok_at, sums_ok}
use Rattle.lists.proofs.Outlines.{function_is, lists_is}
use Rattle.header_keys.specs.Functions.{taken_in, without, RowsReady, LandingsReady, PairsReady, LabelsReady, Listed}
use Rattle.headers.specs.Kinds.{EncodingFits}
use Rattle.dwarf.specs.Asks.{Askable}

-- ---- sums and marks

tested : (n : ℕ) (b : Bool) → T (when_marked n b) → T (mark n) → T b
unfolding when_marked mark
tested n b t m = ⊎_elim (λ z. absurd (eqb_no {a = n} {b = 0} m (eqb_yes z))) (λ y. y) (or_yes (eqb n 0) b t)

-- a fact of what a mark makes optional
if_marked : {A : Type 0} (b : Bool) (a : A) (P : A → Type 0) → (T b → P a) → IfSome (pick b (Some a) None) P
unfolding pick
if_marked true a P h = h tt
if_marked false a P h = tt

-- ---- what a section takes of a function

taken_pairs : (s : Section) (e : Extent) (pairs : List ℕ) → LabelsReady e pairs → LabelsReady (taken_in s e) pairs
unfolding taken_in without
taken_pairs Elf e pairs a = a
taken_pairs Debug e pairs a = a

taken_landings : (s : Section) (e : Extent) (landings : List ℕ) → LandingsReady e landings → LandingsReady (taken_in s e) landings
unfolding taken_in without
taken_landings Elf e landings a = a
taken_landings Debug e landings a = record { inside = omega (arith, a.inside); few = omega arith }

taken_encoding : (s : Section) (e : Extent) → EncodingFits e → EncodingFits (taken_in s e)
unfolding taken_in without
taken_encoding Elf e h = h
taken_encoding Debug e h = tt

pub taken_range : (s : Section) (e : Extent) → ((taken_in s e).rows_at ≡ e.rows_at) × ((taken_in s e).rows ≡ e.rows)
unfolding taken_in without
taken_range Elf e = (refl, refl)
taken_range Debug e = (refl, refl)

-- ---- question 13

module _ (fs rows landings pairs : List ℕ) where
  -- what it says of function k without its rows
  record Outlined (k : ℕ) : Type 0 where
    rows_inside : T (inside (field function_stride fs k 2) (field function_stride fs k 3) (count row_stride rows))
    landings_inside : T (inside (field function_stride fs k 4) (field function_stride fs k 5) (count landing_stride landings))
    named : T (mark (field function_stride fs k 8)) → T (pointer_ok (field function_stride fs k 9) (field function_stride fs k 10))
    relaxed : T (mark (field function_stride fs k 14)) → T (inside (field function_stride fs k 16) (field function_stride fs k 17) (count pair_stride pairs))

  outlined : (k : ℕ) → T (outline_ok_at fs rows landings pairs k) → Outlined k
  unfolding outline_ok_at ranges_ok_at named_ok_at relaxed_ok_at
  outlined k t =
      let f : ℕ → ℕ = λ j. field function_stride fs k j in
      let named : Bool = pointer_ok (f 9) (f 10) && mark_ok (f 11) && when_marked (f 11) (pointer_ok (f 12) (f 13)) in
      let labels : Bool = symbol_ok (f 15) && inside (f 16) (f 17) (count pair_stride pairs) && all_in (pair_ok_at pairs) (f 16) (f 17) in
      let says = chained (symbol_ok (f 0)) (
      inside (f 2) (f 3) (count row_stride rows) ∷ inside (f 4) (f 5) (count landing_stride landings)
      ∷ mark_ok (f 6) ∷ mark_ok (f 7) ∷ mark_ok (f 8)
      ∷ when_marked (f 8) named ∷ mark_ok (f 14) ∷ when_marked (f 14) labels ∷ []) in
      record {
        rows_inside = says 1 t;
        landings_inside = says 2 t;
        named =
            λ m. chained (pointer_ok (f 9) (f 10)) (mark_ok (f 11) ∷ when_marked (f 11) (pointer_ok (f 12) (f 13)) ∷ []) 0
            (tested (f 8) named (says 6 t) m);
        relaxed =
            λ m. chained (symbol_ok (f 15)) (inside (f 16) (f 17) (count pair_stride pairs) ∷ all_in (pair_ok_at pairs) (f 16) (f 17) ∷ []) 1
            (tested (f 14) labels (says 8 t) m);
      }

  -- of a function as a whole, and of all of them
  pub of_function : (k : ℕ) → T (function_ok_at fs rows landings pairs k)
      → T (outline_ok_at fs rows landings pairs k) × T (all_in (row_ok_at rows) (field function_stride fs k 2) (field function_stride fs k 3))
  of_function k t = and_yes (outline_ok_at fs rows landings pairs k) _ (subst T (function_is fs rows landings pairs k) t)

  pub of_lists : T (lists_ok fs rows landings pairs) → T (sums_ok fs) × T (all_in (function_ok_at fs rows landings pairs) 0 (count function_stride fs))
  of_lists t = and_yes (sums_ok fs) _ (subst T (lists_is fs rows landings pairs) t)

-- of the counts
pub record Counted (fs : List ℕ) : Type 0 where
  pub rows_few : sum_of (λ k. field function_stride fs k 3) 0 (count function_stride fs) ≤ most_records
  pub landings_few : sum_of (λ k. field function_stride fs k 5) 0 (count function_stride fs) ≤ most_records
  pub pairs_few : sum_of (pairs_in fs) 0 (count function_stride fs) ≤ most_records
  pub functions_at_most : count function_stride fs ≤ most_functions

pub counted : (fs : List ℕ) → T (sums_ok fs) → Counted fs
unfolding sums_ok
counted fs t =
    let n : ℕ = count function_stride fs in
    let says = chained (leb n most_functions) (
    leb (sum_of (λ k. field function_stride fs k 3) 0 n) most_records ∷ leb (sum_of (λ k. field function_stride fs k 5) 0 n) most_records
    ∷ leb (sum_of (pairs_in fs) 0 n) most_records ∷ []) in
    record {
      functions_at_most = leb→le n most_functions (says 0 t);
      rows_few = leb→le (sum_of (λ k. field function_stride fs k 3) 0 n) most_records (says 1 t);
      landings_few = leb→le (sum_of (λ k. field function_stride fs k 5) 0 n) most_records (says 2 t);
      pairs_few = leb→le (sum_of (pairs_in fs) 0 n) most_records (says 3 t);
    }

-- ---- what the counts and function k's outline say of it

module _ (fs rows landings pairs : List ℕ) (few : Counted fs) (k : ℕ) (h : k < count function_stride fs) where
  rows_short : field function_stride fs k 3 ≤ most_records
  rows_short = omega (arith, part_of (λ j. field function_stride fs j 3) (count function_stride fs) k h, few.rows_few)

  pub rows_few_at : (s : Section) → (taken_in s (extent_at fs k)).rows ≤ most_records
  unfolding extent_at
  rows_few_at s = rw (taken_range s (extent_at fs k)).1 rows_short

  module _ (t : T (outline_ok_at fs rows landings pairs k)) where
    one : Outlined fs rows landings pairs k
    one = outlined fs rows landings pairs k t

    rows_within : field function_stride fs k 2 + field function_stride fs k 3 ≤ count row_stride rows
    rows_within = within _ _ _ one.rows_inside

    pub rows_taken : (s : Section) → (taken_in s (extent_at fs k)).rows_at + (taken_in s (extent_at fs k)).rows ≤ count row_stride rows
    unfolding extent_at
    rows_taken s = rw ((taken_range s (extent_at fs k)).0, (taken_range s (extent_at fs k)).1) rows_within

    landings_ready : LandingsReady (extent_at fs k) landings
    unfolding extent_at
    landings_ready = record {
      inside = within _ _ _ one.landings_inside;
      few = omega (arith, part_of (λ j. field function_stride fs j 5) (count function_stride fs) k h, few.landings_few);
    }

    pub landings_taken : (s : Section) → LandingsReady (taken_in s (extent_at fs k)) landings
    landings_taken s = taken_landings s (extent_at fs k) landings landings_ready

    pairs_ready : LabelsReady (extent_at fs k) pairs
    unfolding extent_at labels_at marked pairs_in
    pairs_ready =
        let f : ℕ → ℕ = λ j. field function_stride fs k j in
        let l : Labels = record { end = f 15; pairs_at = f 16; pairs = f 17 } in
        if_marked (mark (f 14)) l (λ l. PairsReady l pairs)
        (λ m.
        let p : pairs_in fs k ≡ f 17 = pick_yes (mark (f 14)) _ 0 m in
        record {
          inside = within _ _ _ (one.relaxed m);
          few = omega (arith, part_of (pairs_in fs) (count function_stride fs) k h, few.pairs_few);
        })

    pub pairs_taken : (s : Section) → LabelsReady (taken_in s (extent_at fs k)) pairs
    pairs_taken s = taken_pairs s (extent_at fs k) pairs pairs_ready

    byte : (encoding symbol : ℕ) → T (pointer_ok encoding symbol) → encoding < 256
    unfolding pointer_ok
    byte encoding symbol p = omega (arith, leb→le encoding 255 (and_yes (leb encoding 255) (symbol_ok symbol) p).0)

    encoding_at : EncodingFits (extent_at fs k)
    unfolding extent_at personality_at marked
    encoding_at =
        let f : ℕ → ℕ = λ j. field function_stride fs k j in
        let p : Personality = record { encoding = f 9; routine = f 10; lsda = lsda_at fs k } in
        if_marked (mark (f 8)) p (λ p. p.encoding < 256) (λ m. byte (f 9) (f 10) (one.named m))

    pub encoding_taken : (s : Section) → EncodingFits (taken_in s (extent_at fs k))
    encoding_taken s = taken_encoding s (extent_at fs k) encoding_at

    module _ (r : T (all_in (row_ok_at rows) (field function_stride fs k 2) (field function_stride fs k 3))) where
      pub ready : RowsReady rows (field function_stride fs k 2) (field function_stride fs k 3)
      ready = record { inside = rows_within; ok = r }

      pub ready_taken : (s : Section) → RowsReady rows (taken_in s (extent_at fs k)).rows_at (taken_in s (extent_at fs k)).rows
      unfolding extent_at
      ready_taken s = rw ((taken_range s (extent_at fs k)).0, (taken_range s (extent_at fs k)).1) ready

-- ---- what accepted lists say

module _ (fs rows landings pairs : List ℕ) (t : T (lists_ok fs rows landings pairs)) where
  pub all_counted : Counted fs
  all_counted = counted fs (of_lists fs rows landings pairs t).0

  -- function k's outline and its rows
  pub function_listed : (k : ℕ) → k < count function_stride fs
      → T (outline_ok_at fs rows landings pairs k) × T (all_in (row_ok_at rows) (field function_stride fs k 2) (field function_stride fs k 3))
  function_listed k h =
      let e : 0 + k ≡ k = omega arith in
      of_function fs rows landings pairs k
      (rw e at (in_range (function_ok_at fs rows landings pairs) 0 (count function_stride fs) k (of_lists fs rows landings pairs t).1 h))

  pub all_askable : (s : Section) (k : ℕ) → k < count function_stride fs → Askable (taken_in s (extent_at fs k)) rows pairs
  all_askable s k h =
      let o = function_listed k h in
      record { ready = ready_taken fs rows landings pairs all_counted k h o.0 o.1 s; paired = pairs_taken fs rows landings pairs all_counted k h o.0 s }

  pub listed : (n : ℕ) → n ≤ count function_stride fs → Listed fs rows n
  listed n h = record {
    within = omega arith;
    rows_ready = λ j l. let o = function_listed j (omega arith) in ready fs rows landings pairs all_counted j (omega arith) o.0 o.1;
  }
