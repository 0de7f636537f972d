-- Rows and the steps between them: one row, and the loops over rows.
use mathlib.Core.Path.{◌≡◌, refl}
use Prim.Native.Nat.{ℕ, ◌+◌, ◌-◌, ◌*◌, ◌≤◌, ◌<◌}
use native.Mathlib.Omega.{arith}
use mathlib.Core.List.{List, [], ◌∷◌, ◌++◌, append_assoc}
use lib.ListN.{length, length-append}
use lib.Dec.{T}
use Rattle.format.specs.Prelude.{each}
use Rattle.format.proofs.Wrote.{Wrote}
use Rattle.format.specs.Rows.{RowAt, row_bytes, step_bytes, stepped_bytes}
use Rattle.format.specs.Lists.{field, row_stride, row_at, row_ok_at}
use Rattle.format.proofs.ListLaws.{each-length, in_range, each_next}
use Rattle.format.proofs.Sizes.{row_short, step_short, rows_at_short}
use Rattle.format.proofs.WalkBack.{RowsAtOk}
use Rattle.format.proofs.Storing as storing
use Rattle.format.proofs.Storing.{Storing, stored_next}
use Rattle.records.specs.Stepped.{stepped_row_bytes, rows_in, SteppedRowReady, SteppedReady}

-- ---- one row

pub offset_of : (rows : List ℕ) (i : ℕ) → (row_at rows i).0 ≡ field row_stride rows i 0
unfolding row_at
offset_of rows i = refl

pub row_at-length : (w from : ℕ) (x : RowAt) → length (stepped_row_bytes w from x) ≡ length (step_bytes (x.0 - from)) + length (row_bytes w x.1)
unfolding stepped_row_bytes
row_at-length w from x = length-append (step_bytes (x.0 - from)) (row_bytes w x.1)

pub row_at_short : {w from : ℕ} {rows : List ℕ} {i : ℕ} → SteppedRowReady w from rows i → length (stepped_row_bytes w from (row_at rows i)) ≤ 14
row_at_short {w} {from} {rows} {i} r =
    omega (arith, row_at-length w from (row_at rows i), step_short ((row_at rows i).0 - from), row_short w (row_at rows i).1 r.fits)

-- ---- rows

pub none_left : (w from : ℕ) (rows : List ℕ) (at : ℕ) → rows_in w from rows at 0 ≡ []
unfolding rows_in stepped_bytes each
none_left w from rows at = refl

-- in front of row i of those below `end`
pub here : (w from : ℕ) (rows : List ℕ) (i end : ℕ) → i < end
    → rows_in w from rows i (end - i) ≡ stepped_row_bytes w from (row_at rows i) ++ rows_in w (row_at rows i).0 rows (i + 1) (end - (i + 1))
unfolding rows_in stepped_bytes stepped_row_bytes
here w from rows i end h = rw (each_next (row_at rows) end i h, append_assoc)

pub rows_at_most : {w : ℕ} {rows : List ℕ} {at n : ℕ} → SteppedReady w rows at n → length (rows_in w 0 rows at n) ≤ 14 * n
unfolding rows_in
rows_at_most {w} {rows} {at} {n} r = omega (arith, rows_at_short w 0 (each (row_at rows) at n) r.lines, each-length (row_at rows) at n)

-- ---- at row i of n, the row before at offset `from`

pub record Going (w : ℕ) (rows : List ℕ) (first n i from : ℕ) : Type 0 where
  pub low : first ≤ i
  pub high : i ≤ first + n
  pub lines : RowsAtOk w from (each (row_at rows) i (first + n - i))

pub begin : {w : ℕ} {rows : List ℕ} {first n : ℕ} → SteppedReady w rows first n → Going w rows first n first 0
begin {w} {rows} {first} {n} r = record {
  low = omega arith;
  high = omega arith;
  lines = let e : first + n - first ≡ n = omega arith in rw e r.lines;
}

module _ {w : ℕ} {rows : List ℕ} {first n i from : ℕ} (r : SteppedReady w rows first n) (g : Going w rows first n i from) (h : i < first + n) where
  rows_at_here : RowsAtOk w from (row_at rows i ∷ each (row_at rows) (i + 1) (first + n - (i + 1)))
  rows_at_here = rw (each_next (row_at rows) (first + n) i h) at g.lines

  ok_here : T (row_ok_at rows i)
  ok_here =
      let e : first + (i - first) ≡ i = omega (arith, g.low) in
      rw e at (in_range (row_ok_at rows) first n (i - first) r.ready.ok (omega (arith, g.low)))

  pub row_at_ready : SteppedRowReady w from rows i
  row_at_ready = record {
    word_low = r.word_low;
    word_high = r.word_high;
    inside = omega (arith, r.ready.inside);
    ok = ok_here;
    forward = rows_at_here.0;
    fits = rows_at_here.2;
  }

  pub onward : {to : ℕ} → to ≡ field row_stride rows i 0 → Going w rows first n (i + 1) to
  onward e = record { low = omega (arith, g.low); high = omega arith; lines = rw (e, ← offset_of rows i) rows_at_here.3 }

-- ---- the loop that writes them

pub record Writing (xs₀ xs : List ℕ) (w : ℕ) (rows : List ℕ) (at first n i from p : ℕ) : Type 0 where
  pub going : Going w rows first n i from
  pub left : Storing xs₀ xs at p (rows_in w 0 rows first n) (rows_in w from rows i (first + n - i))

pub start : {xs : List ℕ} {w : ℕ} {rows : List ℕ} {at first n : ℕ} → SteppedReady w rows first n → at + length (rows_in w 0 rows first n) ≤ length xs
    → Writing xs xs w rows at first n first 0 at
start {xs} {w} {rows} {at} {first} {n} r h = record {
  going = begin r;
  left = let e : first + n - first ≡ n = omega arith in rw e (storing.start h);
}

module _ {xs₀ xs : List ℕ} {w : ℕ} {rows : List ℕ} {at first n i from p : ℕ} (s : Writing xs₀ xs w rows at first n i from p) where
  module _ (h : i < first + n) where
    front : Storing xs₀ xs at p (rows_in w 0 rows first n)
        (stepped_row_bytes w from (row_at rows i) ++ rows_in w (row_at rows i).0 rows (i + 1) (first + n - (i + 1)))
    front = rw (here w from rows i (first + n) h) at s.left

    pub room : p + length (stepped_row_bytes w from (row_at rows i)) ≤ length xs
    room =
        omega (arith, front.room, length-append (stepped_row_bytes w from (row_at rows i)) (rows_in w (row_at rows i).0 rows (i + 1) (first + n - (i + 1))))

    pub turn : {ys : List ℕ} {q to : ℕ} → SteppedReady w rows first n → to ≡ field row_stride rows i 0
        → Wrote xs ys p q (stepped_row_bytes w from (row_at rows i)) → Writing xs₀ ys w rows at first n (i + 1) to q
    turn r e l = record {
      going = onward r s.going h e;
      left = rw (e, ← offset_of rows i) (stored_next (stepped_row_bytes w from (row_at rows i)) front l);
    }

  pub ended : first + n ≤ i → Wrote xs₀ xs at p (rows_in w 0 rows first n)
  ended h =
      let e : first + n - i ≡ 0 = omega arith in
      storing.ended (rw (e, none_left) at s.left)

-- ---- the loop that counts their bytes

pub record Sizing (w : ℕ) (rows : List ℕ) (first n i from size : ℕ) : Type 0 where
  pub going : Going w rows first n i from
  pub left : size + length (rows_in w from rows i (first + n - i)) ≡ length (rows_in w 0 rows first n)

pub start_size : {w : ℕ} {rows : List ℕ} {first n : ℕ} → SteppedReady w rows first n → Sizing w rows first n first 0 0
start_size {w} {rows} {first} {n} r = record {
  going = begin r;
  left = let e : first + n - first ≡ n = omega arith in rw e (omega arith);
}

module _ {w : ℕ} {rows : List ℕ} {first n i from size : ℕ} (s : Sizing w rows first n i from size) where
  pub turn_size : {x to : ℕ} → i < first + n → SteppedReady w rows first n → to ≡ field row_stride rows i 0 → x ≡ length (stepped_row_bytes w from (row_at rows i))
      → Sizing w rows first n (i + 1) to (size + x)
  turn_size h r e k =
      let j = rw (here w from rows i (first + n) h, length-append) at s.left in
      record { going = onward r s.going h e; left = rw (e, ← offset_of rows i) (omega arith) }

  pub ended_size : first + n ≤ i → size ≡ length (rows_in w 0 rows first n)
  ended_size h =
      let e : first + n - i ≡ 0 = omega arith in
      let k = rw (e, none_left) at s.left in
      omega arith
