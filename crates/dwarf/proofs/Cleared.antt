-- From functions that pass questions 13 and 21 to 25 to what the passes rely on. What stands behind the first of them is bounded by the counts of question 13.
use mathlib.Core.Path.{◌≡◌, refl, ◌∙◌}
use Prim.Native.Nat.{ℕ, zero, suc, ◌+◌, ◌*◌, ◌≤◌, ◌<◌}
use native.Mathlib.Omega.{arith}
use native.Mathlib.Nat.{add-zero}
use mathlib.Core.Bool.{Bool, true, false}
use mathlib.Core.List.{List}
use lib.Dec.{T}
use lib.ListN.{length, length-append}
use Rattle.std.specs.Prelude.{Some, None}
use Rattle.format.specs.Prelude.{pick}
use Rattle.format.specs.declared.Section.{Section}
use Rattle.format.specs.declared.Section.TheVariants.{Elf, Debug}
use Rattle.format.specs.Lists.{function_stride, field, mark, row_ok_at, all_in, sum_of}
use Rattle.format.specs.Writer.{joined}
use Rattle.format.proofs.Accepted.{function_fits}
use Rattle.format.proofs.Accepted as accepted
use Rattle.format.proofs.Fits.{MachineFits, FunctionFits}
use Rattle.format.proofs.ListLaws.{each-length, numbers_length}
use Rattle.format.proofs.Parts.{Spot, part_with_lem}
use Rattle.format.proofs.SectionSize.{part_short}
use Rattle.header_keys.specs.Functions.{taken_in, without}
use Rattle.lists.specs.declared.Labels.{Labels}
use Rattle.lists.specs.declared.Extent.{Extent}
use Rattle.lists.specs.Extents.{marked, labels_at, extent_at, meant_labels, meant}
use Rattle.lists.specs.Parts.{outline_ok_at}
use Rattle.header_keys.specs.Inputs.{Inputs, count_in, extent_in, function_in}
use Rattle.dwarf.specs.Parts.{align_in, earlier_in, bytes_in, relocs_in, sites_in, part_behind, parts_to}
use Rattle.lists.specs.Parts.{where_labelled}
use Rattle.dwarf.specs.Tables.{labelled_rows, most_in}
use Rattle.dwarf.specs.Writable.{Writable, Cleared}
use Rattle.dwarf.specs.Surveys.{PassedAt}
use Rattle.dwarf.proofs.Alignment.{align_ok}
use Rattle.dwarf.proofs.AtMost.{labelled_few}
use Rattle.dwarf.proofs.Bodies.{rows_body, encodings_body, asks_body}
use Rattle.dwarf.proofs.Bounds.{labelled, part_few, added_few}
use Rattle.dwarf.proofs.Fronts.{means_taken, grown, bytes_next, relocs_next, sites_next}
use Rattle.dwarf.proofs.Passed.{Counted, of_function, encoding_taken, rows_few_at, landings_taken, pairs_taken, ready, ready_taken}

-- ---- one function's part

-- its counts, as their list has them
taken_counts : (s : Section) (e : Extent) → ((taken_in s e).rows ≡ e.rows) × ((taken_in s e).landings ≤ e.landings)
unfolding taken_in without
taken_counts Elf e = (refl, omega arith)
taken_counts Debug e = (refl, omega arith)

labelled_marked : (b : Bool) (l : Labels) (pairs : List ℕ) (n : ℕ) → labelled (meant_labels (pick b (Some l) None) pairs) n ≡ pick b n 0
unfolding labelled meant_labels pick
labelled_marked true l pairs n = refl
labelled_marked false l pairs n = refl

labelled_taken : (s : Section) (e : Extent) (rows landings pairs : List ℕ)
    → labelled (meant (taken_in s e) rows landings pairs).relaxed (length (meant (taken_in s e) rows landings pairs).rows) ≡ labelled (meant_labels e.relaxed pairs) e.rows
unfolding meant taken_in without
labelled_taken Elf e rows landings pairs = rw each-length
labelled_taken Debug e rows landings pairs = rw each-length

module _ (x : Inputs) (k : ℕ) where
  rows_at : length (function_in x k).rows ≡ field function_stride x.functions k 3
  unfolding meant extent_at
  rows_at = rw each-length (taken_counts x.section (extent_at x.functions k)).0

  landings_at : length (function_in x k).landings ≤ field function_stride x.functions k 5
  unfolding meant extent_at
  landings_at = rw each-length (taken_counts x.section (extent_at x.functions k)).1

  labelled_at : labelled (function_in x k).relaxed (length (function_in x k).rows) ≡ labelled_rows x.functions k
  unfolding where_labelled extent_at labels_at marked
  labelled_at =
      let f : ℕ → ℕ = λ j. field function_stride x.functions k j in
      labelled_taken x.section (extent_at x.functions k) x.rows x.landings x.pairs
      ∙ labelled_marked (mark (f 14)) (record { end = f 15; pairs_at = f 16; pairs = f 17 }) x.pairs (f 3)

  abbrev spot : Spot
  spot = record { align = align_in x k; start = length (bytes_in (parts_to x k)); earlier = earlier_in x k (parts_to x k) }

  part_relocs : length (part_behind x k (parts_to x k)).relocations ≤ 5 + 2 * labelled_rows x.functions k
  unfolding part_behind
  part_relocs =
      rw part_with_lem (omega (arith, part_few x.section x.machine spot (length (sites_in (parts_to x k))) (function_in x k), labelled_at))

  part_sites : length (part_behind x k (parts_to x k)).sites ≤ 17 + 40 * field function_stride x.functions k 5
  unfolding part_behind
  part_sites = rw part_with_lem (omega (arith, added_few (length (sites_in (parts_to x k))) (function_in x k).landings, landings_at))

  module _ (fit : MachineFits x.machine) (p : PassedAt x k) where
    fits : FunctionFits x.section x.machine (function_in x k)
    fits =
        rw (means_taken x k) at
        (function_fits x.functions x.rows x.landings x.pairs x.section x.machine k k
        (accepted.listed x.functions x.rows x.landings x.pairs k p.listed)
        (rw (means_taken x k) (asks_body x.section x.machine.word k (extent_in x k) x.rows x.landings x.pairs ∙ p.asked)))

    part_bytes : length (part_behind x k (parts_to x k)).bytes ≤ 96 + 14 * field function_stride x.functions k 3
    unfolding part_behind
    part_bytes =
        rw part_with_lem (omega (arith, part_short x.section x.machine fit spot (function_in x k) fits (align_ok x.section x.machine fit _), rows_at))

-- ---- the parts of the first k functions

sum_last : (f : ℕ → ℕ) (at n : ℕ) → sum_of f at (suc n) ≡ sum_of f at n + f (at + n)
unfolding sum_of
sum_last f at zero = rw (add-zero at) (omega arith)
sum_last f at (suc n) =
    let e : suc at + n ≡ at + suc n = omega arith in
    rw (← e) (omega (arith, sum_last f (suc at) n))

sum_next : (f : ℕ → ℕ) (n : ℕ) → sum_of f 0 (suc n) ≡ sum_of f 0 n + f n
sum_next f n =
    let e : 0 + n ≡ n = omega arith in
    rw e at (sum_last f 0 n)

sum_grows : (f : ℕ → ℕ) (k n : ℕ) → k ≤ n → sum_of f 0 k ≤ sum_of f 0 n
sum_grows f k n l = grown (λ i. sum_of f 0 i) (λ i. omega (arith, sum_next f i)) k n l

module _ (x : Inputs) where
  abbrev number : (j : ℕ) → ℕ → ℕ
  number j k = field function_stride x.functions k j

  relocs_to : (k : ℕ) → length (relocs_in (parts_to x k)) ≤ 5 * k + 2 * sum_of (labelled_rows x.functions) 0 k
  unfolding parts_to relocs_in joined
  relocs_to zero = omega arith
  relocs_to (suc k) =
      rw (relocs_next x k, length-append) (omega (arith, relocs_to k, part_relocs x k, sum_next (labelled_rows x.functions) k))

  sites_to : (k : ℕ) → length (sites_in (parts_to x k)) ≤ 17 * k + 40 * sum_of (number 5) 0 k
  unfolding parts_to sites_in joined
  sites_to zero = omega arith
  sites_to (suc k) = rw (sites_next x k, length-append) (omega (arith, sites_to k, part_sites x k, sum_next (number 5) k))

  module _ (fit : MachineFits x.machine) where
    bytes_to : (k : ℕ) → ((j : ℕ) → j < k → PassedAt x j) → length (bytes_in (parts_to x k)) ≤ 96 * k + 14 * sum_of (number 3) 0 k
    unfolding parts_to bytes_in joined
    bytes_to zero p = omega arith
    bytes_to (suc k) p =
        rw (bytes_next x k, length-append)
        (omega (arith, bytes_to k (λ j l. p j (omega arith)), part_bytes x k fit (p k (omega arith)), sum_next (number 3) k))

    -- ---- function k, behind functions that passed

    module _ (few : Counted x.functions) (k : ℕ) (h : k < count_in x) (passed : (j : ℕ) → j < suc k → PassedAt x j) where
      abbrev at_k : T (outline_ok_at x.functions x.rows x.landings x.pairs k) × T (all_in (row_ok_at x.rows) (number 2 k) (number 3 k))
      at_k = of_function x.functions x.rows x.landings x.pairs k (passed k (omega arith)).listed

      pub writable : Writable x k
      writable = record {
        sound = record {
          machine = fit;
          ready = ready_taken x.functions x.rows x.landings x.pairs few k h at_k.0 at_k.1 x.section;
          few = rows_few_at x.functions x.rows x.landings x.pairs few k h x.section;
          lines = rw (rows_body (extent_in x k) x.rows x.landings x.pairs) at (fits x k fit (passed k (omega arith))).lines;
          encodings =
              rw (encodings_body (extent_in x k) x.rows x.landings x.pairs x.machine.word) at (fits x k fit (passed k (omega arith))).encodings;
        };
        encoding_fits = encoding_taken x.functions x.rows x.landings x.pairs few k h at_k.0 x.section;
        landings_ready = landings_taken x.functions x.rows x.landings x.pairs few k h at_k.0 x.section;
        pairs_ready = pairs_taken x.functions x.rows x.landings x.pairs few k h at_k.0 x.section;
        listed = record {
          within = omega arith;
          rows_ready = λ j l.
              let o = of_function x.functions x.rows x.landings x.pairs j (passed j l).listed in
              ready x.functions x.rows x.landings x.pairs few j (omega arith) o.0 o.1;
        };
        bytes_few = omega (arith, bytes_to (suc k) passed, sum_grows (number 3) (suc k) (count_in x) h, few.rows_few, few.functions_at_most);
        relocs_few =
            omega (
              arith,
              relocs_to (suc k),
              numbers_length (relocs_in (parts_to x (suc k))),
              labelled_few x.functions 0 (suc k),
              sum_grows (number 3) (suc k) (count_in x) h,
              few.rows_few,
              few.functions_at_most,
            );
        sites_few = omega (arith, sites_to (suc k), sum_grows (number 5) (suc k) (count_in x) h, few.landings_few, few.functions_at_most);
      }

    -- ---- all of them

    pub cleared : Counted x.functions → ((k : ℕ) → k < count_in x → PassedAt x k) → Cleared x
    unfolding most_in
    cleared few passed = record {
      each_one = λ k h. writable few k h (λ j l. passed j (omega arith));
      listed = record {
        within = omega arith;
        rows_ready = λ j l.
            let o = of_function x.functions x.rows x.landings x.pairs j (passed j l).listed in
            ready x.functions x.rows x.landings x.pairs few j (omega arith) o.0 o.1;
      };
      few = few.functions_at_most;
      sums = record { functions = few.functions_at_most; rows = few.rows_few; landings = few.landings_few };
      covered = record {
        bytes = bytes_to (count_in x) passed;
        relocations = omega (arith, relocs_to (count_in x), numbers_length (relocs_in (parts_to x (count_in x))));
        sites = sites_to (count_in x);
      };
    }
