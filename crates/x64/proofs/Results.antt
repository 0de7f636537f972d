-- The results of the first functions: their records and markers, still to be counted or stored.
use mathlib.Core.Path.{◌≡◌, refl, sym, ap, ◌∙◌}
use Prim.Native.Nat.{ℕ, suc, ◌+◌, ◌-◌, ◌*◌, ◌≤◌, ◌<◌}
use native.Mathlib.Omega.{arith}
use mathlib.Core.List.{List, [], ◌∷◌, ◌++◌}
use lib.ListN.{length, length-append}
use Rattle.format.specs.Prelude.{each}
use Rattle.format.specs.Put.{put}
use Rattle.format.proofs.Wrote.{Wrote}
use Rattle.format.specs.Lists.{Prologue}
use Rattle.format.specs.Writer.{joined}
use Rattle.format.specs.X64.{info_bytes, markers_from}
use Rattle.format.proofs.ListLaws.{each-length, each_next, each_none}
use Rattle.format.proofs.Storing as storing
use Rattle.format.proofs.Storing.{Storing, stored_next}
use Rattle.x64.specs.Answers.{infos_of}

infos_next : (p : Prologue) (ps : List Prologue) → infos_of (p ∷ ps) ≡ info_bytes p.end p.codes ++ infos_of ps
unfolding infos_of joined
infos_next p ps = refl

pub markers_length : (at : ℕ) (ps : List Prologue) → length (markers_from at ps) ≡ length ps
unfolding markers_from
markers_length at [] = refl
markers_length at (p ∷ ps) = ap suc (markers_length (at + length (info_bytes p.end p.codes)) ps)

-- ---- how many bytes the records have

pub record Summing (f : ℕ → Prologue) (n k sum : ℕ) : Type 0 where
  pub high : k ≤ n
  pub small : sum ≤ 516 * k
  pub rest : length (infos_of (each f 0 n)) ≡ sum + length (infos_of (each f k (n - k)))

pub summing : (f : ℕ → Prologue) (n : ℕ) → Summing f n 0 0
summing f n = let e : n - 0 ≡ n = omega arith in record { high = omega arith; small = omega arith; rest = rw e (omega arith) }

module _ {f : ℕ → Prologue} {n k sum : ℕ} (s : Summing f n k sum) where
  pub summed : {x : ℕ} → k < n → x ≡ length (info_bytes (f k).end (f k).codes) → x ≤ 516 → Summing f n (k + 1) (sum + x)
  summed {x} h e l = record {
    high = omega arith;
    small = omega (arith, s.small);
    rest = s.rest ∙ rw (each_next f n k h, infos_next, length-append, ← e) (omega arith);
  }

  pub all_summed : n ≤ k → sum ≡ length (infos_of (each f 0 n))
  unfolding infos_of joined
  all_summed h = sym (s.rest ∙ rw (each_none f n k h) (omega arith))

-- ---- the records and their markers

pub record Describing (f : ℕ → Prologue) (n : ℕ) (marks₀ marks infos₀ infos : List ℕ) (k at : ℕ) : Type 0 where
  pub high : k ≤ n
  pub marks_left : Storing marks₀ marks 0 k (markers_from 0 (each f 0 n)) (markers_from at (each f k (n - k)))
  pub infos_left : Storing infos₀ infos 0 at (infos_of (each f 0 n)) (infos_of (each f k (n - k)))

pub describing : (f : ℕ → Prologue) (n : ℕ) {marks infos : List ℕ} → n ≤ length marks → length (infos_of (each f 0 n)) ≤ length infos
    → Describing f n marks marks infos infos 0 0
describing f n h l =
    let e : n - 0 ≡ n = omega arith in
    record {
      high = omega arith;
      marks_left = rw e (storing.start (omega (arith, markers_length 0 (each f 0 n), each-length f 0 n)));
      infos_left = rw e (storing.start (omega arith));
    }

module _ {f : ℕ → Prologue} {n : ℕ} {marks₀ marks infos₀ infos : List ℕ} {k at : ℕ} (d : Describing f n marks₀ marks infos₀ infos k at) (h : k < n) where
  marks_next : Storing marks₀ marks 0 k (markers_from 0 (each f 0 n)) ((at ∷ []) ++ markers_from (at + length (info_bytes (f k).end (f k).codes)) (each f (k + 1) (n - (k + 1))))
  unfolding markers_from
  marks_next = rw (each_next f n k h) at d.marks_left

  infos_step : Storing infos₀ infos 0 at (infos_of (each f 0 n)) (info_bytes (f k).end (f k).codes ++ infos_of (each f (k + 1) (n - (k + 1))))
  infos_step = rw (each_next f n k h, infos_next) at d.infos_left

  pub mark_room : k + 1 ≤ length marks
  mark_room = omega (arith, marks_next.room)

  pub info_room : at + length (info_bytes (f k).end (f k).codes) ≤ length infos
  info_room = omega (arith, infos_step.room, length-append (info_bytes (f k).end (f k).codes) (infos_of (each f (k + 1) (n - (k + 1)))))

  pub described : {marks' infos' : List ℕ} {q r : ℕ} → Wrote marks marks' k q (at ∷ []) → Wrote infos infos' at r (info_bytes (f k).end (f k).codes)
      → Describing f n marks₀ marks' infos₀ infos' (k + 1) r
  described w v = record {
    high = omega arith;
    marks_left = rw v.past (rw w.past at (stored_next _ marks_next w));
    infos_left = stored_next _ infos_step v;
  }

module _ {f : ℕ → Prologue} {n : ℕ} {marks₀ marks infos₀ infos : List ℕ} {k at : ℕ} (d : Describing f n marks₀ marks infos₀ infos k at) (h : n ≤ k) where
  pub all_marked : marks ≡ put marks₀ 0 (markers_from 0 (each f 0 n))
  unfolding markers_from
  all_marked = (storing.ended (rw (each_none f n k h) at d.marks_left)).stored

  pub all_described : infos ≡ put infos₀ 0 (infos_of (each f 0 n))
  unfolding infos_of joined
  all_described = (storing.ended (rw (each_none f n k h) at d.infos_left)).stored
