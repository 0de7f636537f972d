-- Rows that can be read: their offsets have 32 bits.
use Rattle.format.specs.X64.{before_remember}
use mathlib.Core.Path.{◌≡◌, refl, sym, subst, ap, ◌∙◌}
use Prim.Native.Nat.{ℕ, zero, suc, ◌+◌, ◌-◌, ◌*◌, ◌≤◌, ◌<◌}
use native.Mathlib.Omega.{arith}
use mathlib.Core.List.{List}
use lib.Dec.{T, eqb, eqb→eq}
use lib.IntN.{pos}
use lib.ListN.{length, take, drop, get_or, length-drop}
use lib.Seq.{get_or-take, get_or-drop, length-take-le}
use mir.Syntax.{w32}
use mir.Val.{to_z}
use mir.Facts.{sfits_to_z}
use Rattle.format.specs.Prelude.{each}
use Rattle.format.specs.Rows.{offset_of}
use Rattle.format.specs.Lists.{count, field, row_stride, row_of, row_ok, row_ok_at, row_at}
use Rattle.format.proofs.Choice.{pick_yes, pick_no, tested, picked}
use Rattle.format.proofs.ListLaws.{in_range, row_numbers}
use Rattle.header_keys.specs.Functions.{RowsReady}
use Rattle.prologue.specs.Pieces.{Leads, all_rows}
use Rattle.prologue.specs.Readable.{AreRows, Short}

-- ---- a part of a list

module _ (rows : List ℕ) (at n : ℕ) where
  abbrev pub part : List ℕ
  part = take (4 * n) (drop (4 * at) rows)

  pub part_field : (i : ℕ) → i < n → (j : ℕ) → j < 4 → field row_stride part i j ≡ field row_stride rows (at + i) j
  part_field i h j l = get_or-take (4 * n) (drop (4 * at) rows) (4 * i + j) 0 (omega arith) ∙ get_or-drop (4 * at) rows (4 * i + j) 0 ∙ ap (λ k. get_or rows k 0) (omega arith)

  part_row : (i : ℕ) → i < n → row_at part i ≡ row_at rows (at + i)
  unfolding row_at
  part_row i h = rw (part_field i h 0 (omega arith), part_field i h 1 (omega arith), part_field i h 2 (omega arith), part_field i h 3 (omega arith))

  part_each : (i m : ℕ) → i + m ≤ n → each (row_at part) i m ≡ each (row_at rows) (at + i) m
  unfolding each
  part_each i zero h = refl
  part_each i (suc m) h =
      let e : at + suc i ≡ suc (at + i) = omega arith in
      rw (part_row i (omega arith), part_each (suc i) m (omega arith), e)

  part_ok : (i : ℕ) → i < n → row_ok_at part i ≡ row_ok_at rows (at + i)
  unfolding row_ok_at
  part_ok i h = rw (part_field i h 1 (omega arith), part_field i h 2 (omega arith), part_field i h 3 (omega arith))

  module _ (r : at + n ≤ count row_stride rows) where
    pub part_count : count row_stride part ≡ n
    part_count =
        let l : length part ≡ 4 * n = length-take-le (4 * n) (drop (4 * at) rows) (omega (arith, length-drop (4 * at) rows)) in
        omega (arith, l)

    pub part_rows : all_rows part ≡ each (row_at rows) at n
    part_rows = let z : at + 0 ≡ at = omega arith in rw part_count (rw z at (part_each 0 n (omega arith)))

    pub part_ready : ((k : ℕ) → at ≤ k → k < at + n → T (row_ok_at rows k)) → AreRows part
    part_ready ok =
        record {
          inside = omega arith;
          ok = λ k l u. let h : k < n = omega (arith, part_count) in rw (part_ok k h) (ok (at + k) (omega arith) (omega arith));
        }

-- the first n rows
pub front_ready : {rows : List ℕ} {n : ℕ} → AreRows rows → n ≤ count row_stride rows → AreRows (take (4 * n) rows)
front_ready {rows} {n} r h = part_ready rows 0 n (omega arith) (λ k l u. r.ok k l (omega arith))

pub front_leads : (rows : List ℕ) (n : ℕ) → (n ≤ count row_stride rows) × (before_remember (all_rows rows) ≡ each (row_at rows) 0 n) → Leads rows (take (4 * n) rows)
front_leads rows n h =
    let l : length (take (4 * n) rows) ≡ 4 * n = length-take-le (4 * n) rows (omega (arith, h.0)) in
    record { taken = rw l; before = h.1 ∙ sym (part_rows rows 0 n (omega (arith, h.0))) }

-- the part of a function's rows
pub function_part : {rows : List ℕ} {at n : ℕ} → RowsReady rows at n → AreRows (part rows at n)
function_part {rows} {at} {n} r =
    part_ready rows at n (omega (arith, r.inside))
    (λ k l u.
    let e : at + (k - at) ≡ k = omega arith in
    subst (λ (i : ℕ). T (row_ok_at rows i)) e (in_range (row_ok_at rows) at n (k - at) r.ok (omega arith)))

row_short : (kind reg off : ℕ) → T (row_ok kind reg off) → Short (offset_of (row_of kind reg off))
unfolding row_of offset_of
row_short kind reg off t =
    let h : Short (to_z w32 off) = (sfits_to_z {w = w32} {n = off} (record { fits = (row_numbers kind reg off t).off_low })).sfits in
    let o : Short (pos 0) = omega arith in
    picked (λ r. Short (offset_of r)) (eqb kind 0) h
    (picked (λ r. Short (offset_of r)) (eqb kind 1) h
    (picked (λ r. Short (offset_of r)) (eqb kind 2) o
    (picked (λ r. Short (offset_of r)) (eqb kind 3) h
    (picked (λ r. Short (offset_of r)) (eqb kind 4) o
    (picked (λ r. Short (offset_of r)) (eqb kind 5) o
    (picked (λ r. Short (offset_of r)) (eqb kind 6) o
    (picked (λ r. Short (offset_of r)) (eqb kind 7) o
    (picked (λ r. Short (offset_of r)) (eqb kind 9) o
    (tested (eqb kind 10)
    (λ u. let l : off < 65536 = (row_numbers kind reg off t).other_low (eqb→eq kind 10 u) in rw (pick_yes (eqb kind 10)) (omega arith))
    (λ u. rw (pick_no (eqb kind 10)) o))))))))))

pub row_at_short : (rows : List ℕ) (i : ℕ) → T (row_ok_at rows i) → Short (offset_of (row_at rows i).1)
unfolding row_ok_at row_at
row_at_short rows i t = row_short (field row_stride rows i 1) (field row_stride rows i 2) (field row_stride rows i 3) t
