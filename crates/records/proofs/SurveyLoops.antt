-- Rows asked and sized at once: one row, and the loop over rows.
use mathlib.Core.Path.{◌≡◌, refl, subst}
use Prim.Native.Nat.{ℕ, ◌+◌, ◌-◌, ◌*◌, ◌^◌, ◌≤◌, ◌<◌}
use native.Mathlib.Omega.{arith}
use mathlib.Core.Bool.{true}
use mathlib.Core.List.{List}
use borrow.Author.Tests.{le-leb, lt-ltb}
use lib.Dec.{T}
use lib.ListN.{length, length-append}
use Rattle.format.specs.Prelude.{all, each}
use Rattle.format.specs.Rows.{row_bytes, step_bytes, row_whole}
use Rattle.format.specs.Lists.{field, row_stride, row_at, row_ok_at, all_in, count}
use Rattle.format.specs.Questions.{steps_ok}
use Rattle.format.proofs.Accepted.{row_fits}
use Rattle.format.proofs.RowBack.{RowFits}
use Rattle.format.proofs.Sizes.{row_short}
use Rattle.format.proofs.Choice.{is_true, is_yes_lem}
use Rattle.format.proofs.ListLaws.{each_next}
use Rattle.records.specs.Stepped.{stepped_row_bytes, rows_in, SurveyedRow, SurveyedRows}
use Rattle.records.proofs.RowLoops.{offset_of, row_at-length, none_left, here}

-- ---- a row that passes questions 13 and 24, by what the code asks

module _ (w from : ℕ) (rows : List ℕ) (i : ℕ) {r : ℕ}
    (s : T (row_ok_at rows i) × (row_whole w (row_at rows i).1 ≡ true) × (r ≡ length (row_bytes w (row_at rows i).1))) where
  fits_here : RowFits w (row_at rows i).1
  fits_here = row_fits rows w i s.0 (is_yes_lem s.1)

  pub row_small : r ≤ 9
  row_small = omega (arith, s.2, row_short w (row_at rows i).1 fits_here)

  pub row_passed : {to a : ℕ} → to ≡ field row_stride rows i 0 → from ≤ to → to - from < 2 ^ 32 → a ≡ length (step_bytes (to - from)) → SurveyedRow w from rows i (a + r)
  row_passed {to} {a} o f g e =
      let p : to ≡ (row_at rows i).0 = rw (offset_of rows i) o in
      let q : a ≡ length (step_bytes ((row_at rows i).0 - from)) = rw p at e in
      record {
        ok = s.0;
        forward = rw p at f;
        near = rw p at g;
        fits = fits_here;
        bytes = omega (arith, row_at-length w from (row_at rows i), s.2);
      }

-- ---- rows

-- n rows from `at` on that pass, the first of them from the offset `from` on
pub record Passed (w from : ℕ) (rows : List ℕ) (at n size : ℕ) : Type 0 where
  pub ok : all (row_ok_at rows) (each (λ j. j) at n) ≡ true
  pub steps : steps_ok from (each (row_at rows) at n) ≡ true
  pub whole : all (λ x. row_whole w x.1) (each (row_at rows) at n) ≡ true
  pub bytes : size ≡ length (rows_in w from rows at n)

none : (w from : ℕ) (rows : List ℕ) (at : ℕ) → Passed w from rows at 0 0
unfolding all each steps_ok
none w from rows at = record { ok = refl; steps = refl; whole = refl; bytes = rw (none_left w from rows at) }

-- row i of those below `end`, in front of the others
one_more : {w from : ℕ} {rows : List ℕ} {i end r x : ℕ} → i < end → SurveyedRow w from rows i r → Passed w (row_at rows i).0 rows (i + 1) (end - (i + 1)) x
    → Passed w from rows i (end - i) (r + x)
unfolding all steps_ok
one_more {w} {from} {rows} {i} {end} {r} {x} h s p =
    let e = each_next (row_at rows) end i h in
    record {
      ok = rw (each_next (λ j. j) end i h) (simp (is_true (row_ok_at rows i) s.ok, p.ok));
      steps = rw e (simp (le-leb from (row_at rows i).0 s.forward, lt-ltb ((row_at rows i).0 - from) (2 ^ 32) s.near, p.steps));
      whole = rw e (simp (is_true (row_whole w (row_at rows i).1) s.fits.whole, p.whole));
      bytes =
          rw (here w from rows i end h)
          (omega (arith, s.bytes, p.bytes, length-append (stepped_row_bytes w from (row_at rows i)) (rows_in w (row_at rows i).0 rows (i + 1) (end - (i + 1)))));
    }

-- ---- the loop: at row i all rows pass where those from it on do

pub record Surveying (w : ℕ) (rows : List ℕ) (first n i from size : ℕ) : Type 0 where
  pub small : size ≤ 14 * (i - first)
  pub rest : (x : ℕ) → Passed w from rows i (first + n - i) x → Passed w 0 rows first n (size + x)

pub start : (w : ℕ) (rows : List ℕ) (first n : ℕ) → Surveying w rows first n first 0 0
start w rows first n = record {
  small = omega arith;
  rest = λ x p. let e : first + n - first ≡ n = omega arith in let z : x ≡ 0 + x = omega arith in subst (Passed w 0 rows first n) z (rw e at p);
}

module _ {w : ℕ} {rows : List ℕ} {first n i from size : ℕ} (s : Surveying w rows first n i from size) where
  pub turn : {to r : ℕ} → first ≤ i → i < first + n → to ≡ field row_stride rows i 0 → r ≤ 14 → SurveyedRow w from rows i r
      → Surveying w rows first n (i + 1) to (size + r)
  turn {to} {r} low h o l q = record {
    small = omega (arith, s.small);
    rest = λ x p.
        let z : size + (r + x) ≡ size + r + x = omega arith in
        subst (Passed w 0 rows first n) z (s.rest (r + x) (one_more h q (rw (o, ← offset_of rows i) at p)));
  }

  pub ended : first + n ≤ i → first + n ≤ count row_stride rows → SurveyedRows w rows first n size
  unfolding all_in
  ended h k =
      let e : first + n - i ≡ 0 = omega arith in
      let z : size + 0 ≡ size = omega arith in
      let p = subst (Passed w 0 rows first n) z (s.rest 0 (rw e (none w from rows i))) in
      record { ready = record { inside = k; ok = is_yes_lem p.ok }; steps = p.steps; whole = p.whole; bytes = p.bytes }
