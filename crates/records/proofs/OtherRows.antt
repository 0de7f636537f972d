-- The rows that lead and those that do not: the first and the last of a function's rows, and ready to be written where the function is sound.
use mathlib.Core.Path.{◌≡◌, refl, ap, ◌∙◌}
use Prim.Native.Nat.{ℕ, zero, suc, ◌+◌, ◌-◌, ◌≤◌}
use native.Mathlib.Omega.{arith}
use mathlib.Core.Bool.{Bool, not}
use mathlib.Core.List.{List, [], ◌∷◌, ◌++◌, append_assoc}
use lib.ListN.{length, length-append}
use lib.Dec.{T, eqb}
use mir.Facts.{and_yes, yes_and, eqb_yes}
use Rattle.format.specs.Prelude.{all, each}
use Rattle.format.specs.declared.Machine.{Machine}
use Rattle.format.specs.Rows.{RowAt, stepped_bytes, kind_of}
use Rattle.format.specs.Lists.{row_at, row_ok_at, all_in}
use Rattle.format.specs.Headers.{leads, ahead, others}
use Rattle.format.proofs.Choice.{pick_yes, pick_no, tested}
use Rattle.format.proofs.FieldsBack.{word_small}
use Rattle.format.proofs.Leading.{others_ok}
use Rattle.format.proofs.WalkBack.{RowsAtOk}
use Rattle.rows.proofs.WholeNumbers.{word_least}
use Rattle.lists.specs.declared.Extent.{Extent}
use Rattle.lists.specs.Extents.{meant}
use Rattle.lists.proofs.Ranges.{one_more}
use Rattle.header_keys.specs.Functions.{body_of, Sound}
use Rattle.header_keys.specs.declared.written.Function as written
use Rattle.header_keys.specs.declared.written.Run.{Run}
use Rattle.records.specs.Stepped.{rows_in, SteppedReady}
use Rattle.records.specs.Written.{RunReady, ahead_in, Leading, Others}

-- they start behind those that lead
others_from : (f : ℕ → RowAt) (at n k : ℕ) → k ≡ length (ahead (each f at n)) → others (each f at n) ≡ each f (at + k) (n - k)
unfolding each ahead others
others_from f at zero k e = let z : k ≡ 0 = e in rw z
others_from f at (suc n) k e =
    tested (leads (f at))
    (λ t.
    let q = rw (pick_yes (leads (f at)) ((f at).1 ∷ ahead (each f (suc at) n)) [] t) at e in
    let j : suc at + (k - 1) ≡ at + k = omega arith in
    let m : n - (k - 1) ≡ suc n - k = omega arith in
    rw (pick_yes (leads (f at)) (others (each f (suc at) n)) (f at ∷ each f (suc at) n) t)
    (others_from f (suc at) n (k - 1) (omega arith) ∙ ap (λ i. each f i (n - (k - 1))) j ∙ ap (each f (at + k)) m))
    (λ t.
    let z : k ≡ 0 = rw (pick_no (leads (f at)) ((f at).1 ∷ ahead (each f (suc at) n)) [] t) at e in
    let j : at ≡ at + k = omega arith in
    let m : suc n ≡ suc n - k = omega arith in
    rw (pick_no (leads (f at)) (others (each f (suc at) n)) (f at ∷ each f (suc at) n) t)
    (ap (each f at) m ∙ ap (λ i. each f i (suc n - k)) j))

-- a test that a range passes, at the last of it
all_from : (test : ℕ → Bool) (at n k : ℕ) → k ≤ n → T (all_in test at n) → T (all_in test (at + k) (n - k))
all_from test at n zero h t =
    let j : at + 0 ≡ at = omega arith in
    let m : n - 0 ≡ n = omega arith in
    rw (j, m) t
all_from test at zero (suc k) h t = absurd (omega arith)
all_from test at (suc n) (suc k) h t =
    let j : at + suc k ≡ suc at + k = omega arith in
    let m : suc n - suc k ≡ n - k = omega arith in
    rw (j, m) (all_from test (suc at) n k (omega arith) (and_yes (test at) (all_in test (suc at) n) (rw (one_more test at n) at t)).1)

-- at the first of it
all_to : (test : ℕ → Bool) (at n k : ℕ) → k ≤ n → T (all_in test at n) → T (all_in test at k)
unfolding all_in all each
all_to test at n zero h t = tt
all_to test at zero (suc k) h t = absurd (omega arith)
all_to test at (suc n) (suc k) h t =
    let b = and_yes (test at) (all_in test (suc at) n) t in
    let c : T (all_in test (suc at) k) = all_to test (suc at) n k (omega arith) b.1 in
    yes_and (test at) (all_in test (suc at) k) b.0 c

lines_to : (w from : ℕ) (f : ℕ → RowAt) (at n k : ℕ) → k ≤ n → RowsAtOk w from (each f at n) → RowsAtOk w from (each f at k)
unfolding each
lines_to w from f at n zero h r = tt
lines_to w from f at zero (suc k) h r = absurd (omega arith)
lines_to w from f at (suc n) (suc k) h r = (r.0, r.1, r.2, lines_to w (f at).0 f (suc at) n k (omega arith) r.3)

leads_at_0 : (x : RowAt) → T (leads x) → x.0 ≡ 0
unfolding leads
leads_at_0 x t = eqb_yes (and_yes (eqb x.0 0) (not (eqb (kind_of x.1) 6)) t).0

-- rows that lead stand at the function's start, so that those behind them have the step that they have without them
parted : (w : ℕ) (f : ℕ → RowAt) (at n k : ℕ) → k ≡ length (ahead (each f at n))
    → stepped_bytes w 0 (each f at n) ≡ stepped_bytes w 0 (each f at k) ++ stepped_bytes w 0 (others (each f at n))
unfolding each ahead others stepped_bytes
parted w f at zero k e = let z : k ≡ 0 = e in rw z
parted w f at (suc n) zero e =
    tested (leads (f at))
    (λ t. let q = rw (pick_yes (leads (f at)) ((f at).1 ∷ ahead (each f (suc at) n)) [] t) at e in absurd (omega arith))
    (λ t. rw (pick_no (leads (f at)) (others (each f (suc at) n)) (f at ∷ each f (suc at) n) t))
parted w f at (suc n) (suc k) e =
    tested (leads (f at))
    (λ t.
    let q = rw (pick_yes (leads (f at)) ((f at).1 ∷ ahead (each f (suc at) n)) [] t) at e in
    let z : (f at).0 ≡ 0 = leads_at_0 (f at) t in
    rw (pick_yes (leads (f at)) (others (each f (suc at) n)) (f at ∷ each f (suc at) n) t, z, parted w f (suc at) n k (omega arith), append_assoc, append_assoc))
    (λ t. let q = rw (pick_no (leads (f at)) ((f at).1 ∷ ahead (each f (suc at) n)) [] t) at e in absurd (omega arith))

module _ (e : Extent) (rows : List ℕ) {k : ℕ} (q : (k ≡ length (ahead (each (row_at rows) e.rows_at e.rows))) × (k ≤ e.rows)) where
  pub others_are : others (body_of e rows).rows ≡ each (row_at rows) (e.rows_at + k) (e.rows - k)
  unfolding meant
  others_are = others_from (row_at rows) e.rows_at e.rows k q.0

  pub others_bytes : (w : ℕ) → stepped_bytes w 0 (others (body_of e rows).rows) ≡ rows_in w 0 rows (e.rows_at + k) (e.rows - k)
  unfolding rows_in
  others_bytes w = rw others_are

  pub others_ready : {m : Machine} → Sound m e rows → SteppedReady m.word rows (e.rows_at + k) (e.rows - k)
  others_ready {m} s = record {
    word_low = word_least m.word s.machine.is_word;
    word_high = (word_small m.word s.machine.is_word).1;
    ready = record {
      inside = omega (arith, q.1, s.ready.inside);
      ok = all_from (row_ok_at rows) e.rows_at e.rows k q.1 s.ready.ok;
    };
    few = omega (arith, s.few);
    lines = rw others_are at (others_ok m.word (body_of e rows).rows s.lines);
  }

  pub ahead_ready : {m : Machine} → Sound m e rows → SteppedReady m.word rows e.rows_at k
  unfolding meant
  ahead_ready {m} s = record {
    word_low = word_least m.word s.machine.is_word;
    word_high = (word_small m.word s.machine.is_word).1;
    ready = record {
      inside = omega (arith, q.1, s.ready.inside);
      ok = all_to (row_ok_at rows) e.rows_at e.rows k q.1 s.ready.ok;
    };
    few = omega (arith, q.1, s.few);
    lines = lines_to m.word 0 (row_at rows) e.rows_at e.rows k q.1 s.lines;
  }

  pub size_parted : (w : ℕ) → length (rows_in w 0 rows e.rows_at e.rows)
      ≡ length (rows_in w 0 rows e.rows_at k) + length (rows_in w 0 rows (e.rows_at + k) (e.rows - k))
  unfolding rows_in
  size_parted w =
      rw (parted w (row_at rows) e.rows_at e.rows k q.0, others_from (row_at rows) e.rows_at e.rows k q.0)
      (length-append (stepped_bytes w 0 (each (row_at rows) e.rows_at k)) (stepped_bytes w 0 (each (row_at rows) (e.rows_at + k) (e.rows - k))))

-- ---- the runs of a function's rows

pub ahead_few : {f : written.Function} {x : Run} → Leading f x → (ahead_in f ≡ ahead_in f) × (ahead_in f ≤ f.extent.rows)
ahead_few l = (refl, l.few)

pub leading_ready : {f : written.Function} {x : Run} → Sound f.machine.now f.extent f.rows.now → Leading f x → RunReady x
leading_ready {f} {x} s l = rw (l.word, l.list, l.from, l.count) (ahead_ready f.extent f.rows.now (refl, l.few) s)

pub behind_few : {f : written.Function} {x : Run} → Others f x → (ahead_in f ≡ ahead_in f) × (ahead_in f ≤ f.extent.rows)
behind_few o = (refl, o.few)

pub behind_ready : {f : written.Function} {x : Run} → Sound f.machine.now f.extent f.rows.now → Others f x → RunReady x
behind_ready {f} {x} s o = rw (o.word, o.list, o.from, o.count) (others_ready f.extent f.rows.now (refl, o.few) s)
