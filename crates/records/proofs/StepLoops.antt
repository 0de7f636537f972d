-- The relocations of rows' steps: the loops that write and count them.
use mathlib.Core.Path.{◌≡◌, refl}
use Prim.Native.Nat.{ℕ, ◌+◌, ◌-◌, ◌*◌, ◌≤◌, ◌<◌}
use native.Mathlib.Omega.{arith}
use mathlib.Core.List.{List, [], ◌++◌}
use lib.ListN.{length, length-append}
use Rattle.format.specs.Prelude.{each}
use Rattle.format.proofs.Wrote.{Wrote}
use Rattle.format.specs.Rows.{row_bytes, step_bytes}
use Rattle.format.specs.Lists.{Pair, field, row_stride, row_at, numbers_of}
use Rattle.format.specs.Records.{step_relocs}
use Rattle.format.proofs.ListLaws.{each-length, numbers_append, each_next}
use Rattle.format.proofs.Storing as storing
use Rattle.format.proofs.Storing.{Storing, stored_next}
use Rattle.records.specs.Stepped.{stepped_row_bytes, SteppedReady}
use Rattle.records.specs.Labels.{step_pair, steps_in}
use Rattle.records.proofs.RowLoops.{offset_of, row_at-length, Going, begin, row_at_ready, row_at_short, onward}
use Rattle.records.proofs.LabelLaws.{steps_count, steps_most}

none_left : (w place from : ℕ) (rows : List ℕ) (at : ℕ) (ps : List Pair) → steps_in w place from rows at 0 ps ≡ []
unfolding steps_in step_relocs each
none_left w place from rows at ps = refl

-- in front of row i of those below `end`
here : (w place from : ℕ) (rows : List ℕ) (i end : ℕ) (ps : List Pair) → i < end → steps_in w place from rows i (end - i) ps
    ≡ step_pair place from (row_at rows i).0 ps
    ++ steps_in w (place + length (stepped_row_bytes w from (row_at rows i))) (row_at rows i).0 rows (i + 1) (end - (i + 1)) ps
unfolding steps_in step_relocs step_pair
here w place from rows i end ps h =
    let x = row_at rows i in
    let k : place + length (step_bytes (x.0 - from)) + length (row_bytes w x.1) ≡ place + length (stepped_row_bytes w from x) = omega (arith, row_at-length w from x) in
    rw (each_next (row_at rows) end i h, k)

-- ---- the loop that writes them

-- at row k, with its step's bytes at p
pub record Relocating (xs₀ xs : List ℕ) (w place : ℕ) (rows : List ℕ) (first n : ℕ) (ps : List Pair) (i k from p q : ℕ) : Type 0 where
  pub going : Going w rows first n k from
  pub near : p ≤ place + 14 * (k - first)
  pub left : Storing xs₀ xs i q (numbers_of (steps_in w place 0 rows first n ps)) (numbers_of (steps_in w p from rows k (first + n - k) ps))

pub start : {xs : List ℕ} {w place : ℕ} {rows : List ℕ} {first n : ℕ} {ps : List Pair} {i : ℕ} → SteppedReady w rows first n
    → i + length (numbers_of (steps_in w place 0 rows first n ps)) ≤ length xs → Relocating xs xs w place rows first n ps i first 0 place i
start {xs} {w} {place} {rows} {first} {n} r h = record {
  going = begin r;
  near = omega arith;
  left = let e : first + n - first ≡ n = omega arith in rw e (storing.start h);
}

module _ {xs₀ xs : List ℕ} {w place : ℕ} {rows : List ℕ} {first n : ℕ} {ps : List Pair} {i k from p q : ℕ}
    (s : Relocating xs₀ xs w place rows first n ps i k from p q) where
  module _ {to : ℕ} (h : k < first + n) (o : to ≡ field row_stride rows k 0) where
    front : Storing xs₀ xs i q (numbers_of (steps_in w place 0 rows first n ps))
        (numbers_of (step_pair p from to ps)
        ++ numbers_of (steps_in w (p + length (stepped_row_bytes w from (row_at rows k))) to rows (k + 1) (first + n - (k + 1)) ps))
    front = rw (o, ← offset_of rows k) (rw (here w p from rows k (first + n) ps h, numbers_append) at s.left)

    pub room : q + length (numbers_of (step_pair p from to ps)) ≤ length xs
    room =
        omega (
          arith,
          front.room,
          length-append (numbers_of (step_pair p from to ps))
              (numbers_of (steps_in w (p + length (stepped_row_bytes w from (row_at rows k))) to rows (k + 1) (first + n - (k + 1)) ps)),
        )

    pub turn : {ys : List ℕ} {x r : ℕ} → SteppedReady w rows first n → Wrote xs ys q r (numbers_of (step_pair p from to ps))
        → x ≡ length (stepped_row_bytes w from (row_at rows k)) → Relocating xs₀ ys w place rows first n ps i (k + 1) to (p + x) r
    turn l t y = record {
      going = onward l s.going h o;
      near = omega (arith, s.near, s.going.low, row_at_short (row_at_ready l s.going h));
      left = rw y (stored_next (numbers_of (step_pair p from to ps)) front t);
    }

  pub ended : first + n ≤ k → Wrote xs₀ xs i q (numbers_of (steps_in w place 0 rows first n ps))
  unfolding numbers_of
  ended h =
      let m : first + n - k ≡ 0 = omega arith in
      storing.ended (rw (m, none_left) at s.left)

-- ---- the loop that counts them

pub record Tallying (rows : List ℕ) (first n : ℕ) (ps : List Pair) (k from size : ℕ) : Type 0 where
  pub low : first ≤ k
  pub high : k ≤ first + n
  pub left : size + length (steps_in 0 0 from rows k (first + n - k) ps) ≡ length (steps_in 0 0 0 rows first n ps)

pub start_tally : (rows : List ℕ) (first n : ℕ) (ps : List Pair) → Tallying rows first n ps first 0 0
start_tally rows first n ps = record {
  low = omega arith;
  high = omega arith;
  left = let m : first + n - first ≡ n = omega arith in rw m (omega arith);
}

pub tally_most : (w place from : ℕ) (rows : List ℕ) (first n : ℕ) (ps : List Pair) → length (steps_in w place from rows first n ps) ≤ 2 * n
unfolding steps_in
tally_most w place from rows first n ps =
    omega (
      arith,
      steps_most w place from ps (each (row_at rows) first n),
      each-length (row_at rows) first n,
    )

pub steps_counted : (w place from : ℕ) (rows : List ℕ) (at n : ℕ) (ps : List Pair)
    → length (steps_in w place from rows at n ps) ≡ length (steps_in 0 0 from rows at n ps)
unfolding steps_in
steps_counted w place from rows at n ps =
    steps_count w place from ps (each (row_at rows) at n)

module _ {rows : List ℕ} {first n : ℕ} {ps : List Pair} {k from size : ℕ} (s : Tallying rows first n ps k from size) where
  pub turn_tally : {to x : ℕ} → k < first + n → to ≡ field row_stride rows k 0 → x ≡ length (step_pair 0 from to ps)
      → Tallying rows first n ps (k + 1) to (size + x)
  turn_tally h o y =
      let j = rw (here 0 0 from rows k (first + n) ps h, length-append) at s.left in
      let z = rw (o, ← offset_of rows k) at y in
      record {
        low = omega (arith, s.low);
        high = omega arith;
        left =
            rw (o, ← offset_of rows k)
            (omega (
              arith,
              steps_counted 0 (0 + length (stepped_row_bytes 0 from (row_at rows k))) (row_at rows k).0 rows (k + 1) (first + n - (k + 1)) ps,
            ));
      }

  pub ended_tally : first + n ≤ k → (size ≡ length (steps_in 0 0 0 rows first n ps)) × (size ≤ 2 * n)
  ended_tally h =
      let m : first + n - k ≡ 0 = omega arith in
      let j = rw (m, none_left) at s.left in
      (omega arith, omega (arith, tally_most 0 0 0 rows first n ps))
