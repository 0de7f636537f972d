-- The loops over the leading rows: what they know at each turn, and how many bytes the rows have.
use mathlib.Core.Path.{◌≡◌, refl, ap}
use mathlib.Core.List.{List, [], ◌∷◌, ◌++◌}
use Prim.Native.Nat.{ℕ, zero, suc, ◌+◌, ◌*◌, ◌≤◌, ◌<◌}
use native.Mathlib.Numerals.{add-one}
use native.Mathlib.Omega.{arith}
use lib.ListN.{length, get_or, drop, length-append}
use lib.Seq.{drop-cons}
use Rattle.format.proofs.Wrote.{Wrote}
use Rattle.format.specs.declared.Machine.{Machine}
use Rattle.format.specs.declared.Row.{Row}
use Rattle.format.specs.declared.Row.TheVariants.{RememberState}
use Rattle.format.specs.Rows.{row_bytes, rows_bytes}
use Rattle.format.specs.Lists.{row_at, most_records}
use Rattle.format.specs.Headers.{leading}
use Rattle.format.proofs.Storing.{Storing, stored_next}
use Rattle.format.proofs.Storing as storing
use Rattle.format.proofs.ListLaws.{each-length}
use Rattle.format.proofs.Sizes.{rows_short}
use Rattle.format.proofs.Leading.{leading_ok, leading_count}
use Rattle.lists.specs.declared.Extent.{Extent}
use Rattle.lists.specs.Extents.{meant}
use Rattle.header_keys.specs.Functions.{body_of, Sound}

-- ---- the rows from row i on

row_next : (w : ℕ) (rs : List Row) (i : ℕ) → i < length rs → rows_bytes w (drop i rs) ≡ row_bytes w (get_or rs i RememberState) ++ rows_bytes w (drop (i + 1) rs)
unfolding rows_bytes
row_next w rs i h = rw (add-one, drop-cons rs i RememberState)

row_last : (w : ℕ) (rs : List Row) (i : ℕ) → length rs ≤ i → rows_bytes w (drop i rs) ≡ []
unfolding rows_bytes
row_last w [] zero h = refl
row_last w [] (suc i) h = refl
row_last w (r ∷ rs) zero h = absurd (omega arith)
row_last w (r ∷ rs) (suc i) h = row_last w rs i (omega arith)

-- ---- storing them

-- xs₀ is xs by now, p the next place and i the next row of those that go from `at` on
pub record Rowing (w : ℕ) (rs : List Row) (xs₀ xs : List ℕ) (at p i : ℕ) : Type 0 where
  pub bytes : Storing xs₀ xs at p (rows_bytes w rs) (rows_bytes w (drop i rs))

pub start : {w : ℕ} {rs : List Row} {xs : List ℕ} {at : ℕ} → at + length (rows_bytes w rs) ≤ length xs → Rowing w rs xs xs at at 0
start h = record { bytes = storing.start h }

module _ {w : ℕ} {rs : List Row} {xs₀ xs : List ℕ} {at p i : ℕ} (c : Rowing w rs xs₀ xs at p i) where
  module _ {r : Row} (h : i < length rs) (e : r ≡ get_or rs i RememberState) where
    next : Storing xs₀ xs at p (rows_bytes w rs) (row_bytes w r ++ rows_bytes w (drop (i + 1) rs))
    next = rw (e, ← row_next w rs i h) c.bytes

    pub room : p + length (row_bytes w r) ≤ length xs
    room = omega (arith, next.room, length-append (row_bytes w r) (rows_bytes w (drop (i + 1) rs)))

    pub turn : {ys : List ℕ} {q : ℕ} → Wrote xs ys p q (row_bytes w r) → Rowing w rs xs₀ ys at q (i + 1)
    turn s = record { bytes = stored_next (row_bytes w r) next s }

  pub ended : length rs ≤ i → Wrote xs₀ xs at p (rows_bytes w rs)
  ended h = storing.ended (rw (row_last w rs i h) at c.bytes)

-- ---- counting them

-- `size` is the bytes of the rows before row i
pub record Sizing (w : ℕ) (rs : List Row) (size i : ℕ) : Type 0 where
  pub whole : size + length (rows_bytes w (drop i rs)) ≡ length (rows_bytes w rs)

pub size_start : (w : ℕ) (rs : List Row) → Sizing w rs 0 0
size_start w rs = record { whole = omega arith }

module _ {w : ℕ} {rs : List Row} {size i : ℕ} (c : Sizing w rs size i) where
  pub size_turn : {r : Row} {n : ℕ} → i < length rs → r ≡ get_or rs i RememberState → n ≡ length (row_bytes w r) → Sizing w rs (size + n) (i + 1)
  size_turn {r} {n} h e l =
      let s = rw (← e) at (row_next w rs i h) in
      record { whole = omega (arith, c.whole, ap length s, length-append (row_bytes w r) (rows_bytes w (drop (i + 1) rs))) }

  pub size_ended : length rs ≤ i → size ≡ length (rows_bytes w rs)
  size_ended h = omega (arith, c.whole, ap length (row_last w rs i h))

-- ---- how many there are

module _ (m : Machine) (e : Extent) (rows : List ℕ) (s : Sound m e rows) where
  pub starts_few : length (leading m (body_of e rows)) ≤ 2 + most_records
  unfolding meant
  starts_few = omega (arith, leading_count m (body_of e rows) s.machine, each-length (row_at rows) e.rows_at e.rows, s.few)

  pub starts_short : length (rows_bytes m.word (leading m (body_of e rows))) ≤ 9 * (2 + most_records)
  starts_short = omega (arith, starts_few, rows_short m.word (leading m (body_of e rows)) (leading_ok m (body_of e rows) s.machine s.lines))
