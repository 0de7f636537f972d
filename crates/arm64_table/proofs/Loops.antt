-- Loops over the functions: the questions left to ask, and the parts that each function has of the results.
use mathlib.Core.Path.{◌≡◌, refl, sym, ap, ◌∙◌}
use Prim.Native.Nat.{ℕ, zero, suc, ◌+◌, ◌-◌, ◌*◌, ◌≤◌, ◌<◌}
use native.Mathlib.Omega.{arith}
use native.Mathlib.Numerals.{add-one}
use mathlib.Core.Option.{Option, none, some}
use mathlib.Core.List.{List, [], ◌∷◌}
use lib.ListN.{length, length-append}
use Rattle.std.specs.Prelude.{Ok, Err}
use Rattle.format.specs.Prelude.{pick, each}
use Rattle.format.specs.Put.{put}
use Rattle.format.specs.Lists.{numbers_of}
use Rattle.format.specs.Questions.{and_then, per_function}
use Rattle.format.specs.Writer.{joined}
use Rattle.format.proofs.Accepted.{both}
use Rattle.format.proofs.Asked.{question_of, said_yes}
use Rattle.format.proofs.ListLaws.{each-length, numbers_length, numbers_append, each_next, each_none}
use Rattle.format.proofs.Wrote.{Wrote}
use Rattle.arm64.specs.Lists.{Function}
use Rattle.arm64.specs.Writer.{function_asks, is_packed, row_bytes, row_relocs, info_of, no_record, markers_from, rows_of, relocs_from, infos_of}
use Rattle.arm64_table.specs.Tables.{reloc_count, mark_by}
use Rattle.arm64.proofs.WriterLaws.{row_length, markers_length}
use Rattle.arm64_table.proofs.Rows.{mark_is, relocs_count}
use Rattle.arm64_table.proofs.Parts.{Counted, counted, count_next, all_counted, Filled, filled, room_for_lem, fill_next, all_filled}

-- ---- the questions

-- at function k of n, what is left decides
pub record Asking (f : ℕ → Function) (n k : ℕ) : Type 0 where
  pub high : k ≤ n
  pub rest : per_function function_asks 0 (each f 0 n) ≡ per_function function_asks k (each f k (n - k))

pub asking : (f : ℕ → Function) (n : ℕ) → Asking f n 0
asking f n =
    record {
      high = omega arith;
      rest = let e : n ≡ n - 0 = omega arith in ap (λ (i : ℕ). per_function function_asks 0 (each f 0 i)) e;
    }

first_stops : (o p : Option (ℕ × ℕ)) {r : ℕ × ℕ} → question_of o ≡ Err r → question_of (and_then o p) ≡ Err r
unfolding question_of and_then
first_stops none p e = let z : ◌≡◌ {A = ℕ} 0 1 = cc in absurd (omega arith)
first_stops (some x) p e = e

module _ {f : ℕ → Function} {n k : ℕ} (a : Asking f n k) where
  asked_here : k < n
      → per_function function_asks 0 (each f 0 n) ≡ and_then (function_asks k (f k)) (per_function function_asks (k + 1) (each f (k + 1) (n - (k + 1))))
  unfolding per_function
  asked_here h = a.rest ∙ rw (each_next f n k h) (rw (add-one k))

  pub answered : k < n → question_of (function_asks k (f k)) ≡ Ok tt → Asking f n (k + 1)
  unfolding and_then
  answered h e = record { high = omega arith; rest = asked_here h ∙ rw (said_yes (function_asks k (f k)) e) refl }

  pub stopped : {r : ℕ × ℕ} → k < n → question_of (function_asks k (f k)) ≡ Err r → Err r ≡ question_of (per_function function_asks 0 (each f 0 n))
  stopped {r} h e =
      sym (ap question_of (asked_here h) ∙ first_stops (function_asks k (f k)) (per_function function_asks (k + 1) (each f (k + 1) (n - (k + 1)))) e)

  pub all_answered : n ≤ k → Ok tt ≡ question_of (per_function function_asks 0 (each f 0 n))
  unfolding per_function question_of
  all_answered h = sym (ap question_of a.rest ∙ rw (each_none f n k h))

-- a yes to all is a yes to each
yes_from : (f : ℕ → Function) (at n k : ℕ) → per_function function_asks at (each f at n) ≡ none → k < n → function_asks (at + k) (f (at + k)) ≡ none
unfolding per_function each
yes_from f at zero k e h = absurd (omega arith)
yes_from f at (suc n) zero e h =
    let z : at + 0 ≡ at = omega arith in rw z (both (function_asks at (f at)) (per_function function_asks (suc at) (each f (suc at) n)) e).0
yes_from f at (suc n) (suc k) e h =
    let z : at + suc k ≡ suc at + k = omega arith in
    rw z (yes_from f (suc at) n k (both (function_asks at (f at)) (per_function function_asks (suc at) (each f (suc at) n)) e).1 (omega arith))

pub each_yes : (f : ℕ → Function) (n : ℕ) → per_function function_asks 0 (each f 0 n) ≡ none → (k : ℕ) → k < n → function_asks k (f k) ≡ none
each_yes f n e k h = let z : 0 + k ≡ k = omega arith in rw z at (yes_from f 0 n k e h)

-- ---- a function's parts of the results

abbrev row_part : (ℕ → Function) → ℕ → List ℕ
row_part f k = row_bytes (f k)

abbrev relocs_part : (ℕ → Function) → ℕ → List ℕ
relocs_part f k = numbers_of (row_relocs (8 * k) (f k))

abbrev info_part : (ℕ → Function) → ℕ → List ℕ
info_part f k = info_of (f k)

-- where record k stands
unfoldable pub place_of : (ℕ → Function) → ℕ → ℕ
place_of f zero = 0
place_of f (suc k) = place_of f k + length (info_of (f k))

abbrev mark_part : (ℕ → Function) → ℕ → List ℕ
mark_part f k = pick (is_packed (f k)) no_record (place_of f k) ∷ []

module _ (f : ℕ → Function) where
  rows_are : (at n : ℕ) → joined (each (row_part f) at n) ≡ rows_of (each f at n)
  unfolding joined each rows_of
  rows_are at zero = refl
  rows_are at (suc n) = rw (rows_are (suc at) n)

  relocs_are : (at n : ℕ) → joined (each (relocs_part f) at n) ≡ numbers_of (relocs_from (8 * at) (each f at n))
  unfolding joined each relocs_from numbers_of
  relocs_are at zero = refl
  relocs_are at (suc n) =
      let t : 8 * suc at ≡ 8 * at + 8 = omega arith in
      rw (relocs_are (suc at) n, t, numbers_append)

  infos_are : (at n : ℕ) → joined (each (info_part f) at n) ≡ infos_of (each f at n)
  unfolding joined each infos_of
  infos_are at zero = refl
  infos_are at (suc n) = rw (infos_are (suc at) n)

  marks_are : (at n : ℕ) → joined (each (mark_part f) at n) ≡ markers_from (place_of f at) (each f at n)
  unfolding joined each markers_from place_of
  marks_are at zero = refl
  marks_are at (suc n) = rw (marks_are (suc at) n)

-- ---- their counts: a record has at most 300,000 bytes, a row at most two relocations

pub record Summing (f : ℕ → Function) (n k info relocations : ℕ) : Type 0 where
  pub small : info ≤ 300000 * k
  pub few : relocations ≤ 2 * k
  pub infos : Counted (info_part f) n k info
  pub relocs : Counted (relocs_part f) n k (5 * relocations)

pub summing : (f : ℕ → Function) (n : ℕ) → Summing f n 0 0 0
summing f n = record { small = omega arith; few = omega arith; infos = counted (info_part f) n; relocs = counted (relocs_part f) n }

module _ {f : ℕ → Function} {n k info relocations : ℕ} (s : Summing f n k info relocations) where
  pub summed : {x y : ℕ} → k < n → x ≡ length (info_of (f k)) → x ≤ 300000 → y ≡ reloc_count x → y ≤ 2
      → Summing f n (k + 1) (info + x) (relocations + y)
  summed {x} {y} h e l d m =
      let c : y ≡ length (row_relocs (8 * k) (f k)) = d ∙ ap reloc_count e ∙ sym (relocs_count (f k) (8 * k)) in
      let five : 5 * y ≡ length (relocs_part f k) = omega (arith, c, numbers_length (row_relocs (8 * k) (f k))) in
      let t : 5 * relocations + 5 * y ≡ 5 * (relocations + y) = omega arith in
      record {
        small = omega (arith, s.small);
        few = omega (arith, s.few);
        infos = count_next s.infos h e;
        relocs = rw t at (count_next s.relocs h five);
      }

  pub info_sum : n ≤ k → info ≡ length (infos_of (each f 0 n))
  info_sum h = all_counted s.infos h ∙ ap length (infos_are f 0 n)

  pub relocs_sum : n ≤ k → relocations ≡ length (relocs_from 0 (each f 0 n))
  relocs_sum h =
      let e : 5 * relocations ≡ length (numbers_of (relocs_from 0 (each f 0 n))) = all_counted s.relocs h ∙ ap length (relocs_are f 0 n) in
      omega (arith, e, numbers_length (relocs_from 0 (each f 0 n)))

-- ---- rows and their relocations

pub rows-length : (fs : List Function) → length (rows_of fs) ≡ 8 * length fs
unfolding rows_of
rows-length [] = refl
rows-length (f ∷ fs) = omega (arith, length-append (row_bytes f) (rows_of fs), row_length f, rows-length fs)

pub record Rowing (f : ℕ → Function) (n : ℕ) (bytes₀ bytes relocs₀ relocs : List ℕ) (k to : ℕ) : Type 0 where
  pub rows_in : Filled (row_part f) n bytes₀ bytes k (8 * k)
  pub relocs_in : Filled (relocs_part f) n relocs₀ relocs k to

pub rowing : (f : ℕ → Function) (n : ℕ) {bytes relocs : List ℕ} → 8 * n ≤ length bytes → 5 * length (relocs_from 0 (each f 0 n)) ≤ length relocs
    → Rowing f n bytes bytes relocs relocs 0 0
rowing f n h l =
    record {
      rows_in = filled (row_part f) n (rw (rows_are f 0 n) (omega (arith, rows-length (each f 0 n), each-length f 0 n)));
      relocs_in = filled (relocs_part f) n (rw (relocs_are f 0 n) (omega (arith, numbers_length (relocs_from 0 (each f 0 n)))));
    }

module _ {f : ℕ → Function} {n : ℕ} {bytes₀ bytes relocs₀ relocs : List ℕ} {k to : ℕ} (d : Rowing f n bytes₀ bytes relocs₀ relocs k to) where
  pub row_room : k < n → 8 * k + 8 ≤ length bytes
  row_room h = omega (arith, room_for_lem d.rows_in h, row_length (f k))

  pub relocs_room : k < n → to + 5 * length (row_relocs (8 * k) (f k)) ≤ length relocs
  relocs_room h = omega (arith, room_for_lem d.relocs_in h, numbers_length (row_relocs (8 * k) (f k)))

  pub rowed : {bytes' relocs' : List ℕ} {q r : ℕ} → k < n → Wrote bytes bytes' (8 * k) q (row_bytes (f k))
      → Wrote relocs relocs' to r (numbers_of (row_relocs (8 * k) (f k))) → Rowing f n bytes₀ bytes' relocs₀ relocs' (k + 1) r
  rowed {bytes'} {relocs'} {q} h w v =
      let e : q ≡ 8 * (k + 1) = omega (arith, w.past, row_length (f k)) in
      record { rows_in = rw e at (fill_next d.rows_in h w); relocs_in = fill_next d.relocs_in h v }

  pub all_rows : n ≤ k → bytes ≡ put bytes₀ 0 (rows_of (each f 0 n))
  all_rows h = all_filled d.rows_in h ∙ ap (put bytes₀ 0) (rows_are f 0 n)

  pub all_relocs : n ≤ k → relocs ≡ put relocs₀ 0 (numbers_of (relocs_from 0 (each f 0 n)))
  all_relocs h = all_filled d.relocs_in h ∙ ap (put relocs₀ 0) (relocs_are f 0 n)

-- ---- records and markers

pub record Describing (f : ℕ → Function) (n : ℕ) (marks₀ marks infos₀ infos : List ℕ) (k at : ℕ) : Type 0 where
  pub place : at ≡ place_of f k
  pub marks_in : Filled (mark_part f) n marks₀ marks k k
  pub infos_in : Filled (info_part f) n infos₀ infos k at

pub describing : (f : ℕ → Function) (n : ℕ) {marks infos : List ℕ} → n ≤ length marks → length (infos_of (each f 0 n)) ≤ length infos
    → Describing f n marks marks infos infos 0 0
unfolding place_of
describing f n h l =
    record {
      place = refl;
      marks_in = filled (mark_part f) n (rw (marks_are f 0 n) (omega (arith, markers_length 0 (each f 0 n), each-length f 0 n)));
      infos_in = filled (info_part f) n (rw (infos_are f 0 n) l);
    }

module _ {f : ℕ → Function} {n : ℕ} {marks₀ marks infos₀ infos : List ℕ} {k at : ℕ} (d : Describing f n marks₀ marks infos₀ infos k at) where
  pub mark_room : k < n → k + 1 ≤ length marks
  mark_room h = room_for_lem d.marks_in h

  pub info_room : k < n → at + length (info_of (f k)) ≤ length infos
  info_room h = room_for_lem d.infos_in h

  pub described : {marks' infos' : List ℕ} {q r m : ℕ} → k < n → Wrote infos infos' at r (info_of (f k)) → m ≡ mark_by at r
      → Wrote marks marks' k q (m ∷ []) → Describing f n marks₀ marks' infos₀ infos' (k + 1) r
  unfolding place_of
  described {marks'} {infos'} {q} {r} {m} h v e w =
      let x : m ≡ pick (is_packed (f k)) no_record (place_of f k) = e ∙ mark_is (f k) at v.past ∙ ap (pick (is_packed (f k)) no_record) d.place in
      let z : Wrote marks marks' k q (mark_part f k) = rw x at w in
      record {
        place = v.past ∙ rw (d.place, add-one k);
        marks_in = rw w.past at (fill_next d.marks_in h z);
        infos_in = fill_next d.infos_in h v;
      }

  pub all_marked : n ≤ k → marks ≡ put marks₀ 0 (markers_from 0 (each f 0 n))
  unfolding place_of
  all_marked h = all_filled d.marks_in h ∙ ap (put marks₀ 0) (marks_are f 0 n)

  pub all_described : n ≤ k → infos ≡ put infos₀ 0 (infos_of (each f 0 n))
  all_described h = all_filled d.infos_in h ∙ ap (put infos₀ 0) (infos_are f 0 n)
