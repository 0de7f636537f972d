-- A function's leading rows and its others: they fit where its rows do, and how many there are.
use mathlib.Core.Path.{◌≡◌, refl}
use Prim.Native.Nat.{ℕ, zero, suc, ◌+◌, ◌%◌, ◌^◌, ◌≤◌, ◌<◌}
use native.Mathlib.Omega.{arith}
use mathlib.Core.Bool.{Bool, true, false, not}
use mathlib.Core.Logic.{◌≢◌}
use mathlib.Core.List.{List, [], ◌∷◌, ◌++◌}
use lib.ListN.{length, length-append}
use lib.Dec.{T, eqb}
use lib.IntN.{pos, neg_ℤ}
use mir.Facts.{and_yes, eqb_yes, eqb_no, yes_eqb}
use Rattle.format.specs.Prelude.{pick}
use Rattle.format.specs.declared.Machine.{Machine}
use Rattle.format.specs.declared.Row.{Row}
use Rattle.format.specs.declared.Row.TheVariants.{DefCfa, Offset}
use Rattle.format.specs.Rows.{RowAt, kind_of, reg_of, offset_of, whole, whole_below, row_whole}
use Rattle.format.specs.Lists.{Function}
use Rattle.format.specs.Headers.{implied, leads, ahead, others, leading}
use Rattle.format.proofs.Choice.{pick_yes, pick_no, tested}
use Rattle.format.proofs.RowBack.{RowFits, other_of}
use Rattle.format.proofs.WalkBack.{RowsAtOk, RowsOk}
use Rattle.format.proofs.Fits.{MachineFits}

-- ---- a function's own rows

-- a leading row is at offset 0, so what follows it still counts from 0
leads_at_0 : (w : ℕ) (x : RowAt) (xs : List RowAt) → T (leads x) → RowsAtOk w x.0 xs → RowsAtOk w 0 xs
unfolding leads
leads_at_0 w x xs t ok = let e : x.0 ≡ 0 = eqb_yes (and_yes (eqb x.0 0) (not (eqb (kind_of x.1) 6)) t).0 in rw e at ok

ahead_ok : (w : ℕ) (xs : List RowAt) → RowsAtOk w 0 xs → RowsOk w (ahead xs)
unfolding ahead
ahead_ok w [] ok = tt
ahead_ok w (x ∷ xs) ok =
    tested (leads x) (λ t. rw (pick_yes (leads x) (x.1 ∷ ahead xs) [] t) (ok.2, ahead_ok w xs (leads_at_0 w x xs t ok.3)))
    (λ t. rw (pick_no (leads x) (x.1 ∷ ahead xs) [] t) tt)

pub others_ok : (w : ℕ) (xs : List RowAt) → RowsAtOk w 0 xs → RowsAtOk w 0 (others xs)
unfolding others
others_ok w [] ok = tt
others_ok w (x ∷ xs) ok =
    tested (leads x) (λ t. rw (pick_yes (leads x) (others xs) (x ∷ xs) t) (others_ok w xs (leads_at_0 w x xs t ok.3)))
    (λ t. rw (pick_no (leads x) (others xs) (x ∷ xs) t) ok)

ahead_count : (xs : List RowAt) → length (ahead xs) + length (others xs) ≡ length xs
unfolding ahead others
ahead_count [] = refl
ahead_count (x ∷ xs) =
    tested (leads x)
    (λ t. rw (pick_yes (leads x) (x.1 ∷ ahead xs) [] t, pick_yes (leads x) (others xs) (x ∷ xs) t) (omega (arith, ahead_count xs)))
    (λ t. rw (pick_no (leads x) (x.1 ∷ ahead xs) [] t, pick_no (leads x) (others xs) (x ∷ xs) t) (omega arith))

pub others_count : (xs : List RowAt) → length (others xs) ≤ length xs
others_count xs = omega (arith, ahead_count xs)

-- ---- those that a call implies

below_fits : (w reg n : ℕ) → 0 < n → reg < 65536 → n < 2 ^ 31 → n % w ≡ 0 → RowFits w (Offset reg (neg_ℤ (pos n)))
unfolding pick kind_of reg_of offset_of other_of row_whole whole
below_fits w reg zero h r l e = absurd (omega arith)
below_fits w reg (suc n) h r l e = record { reg = r; off = omega arith; other = omega arith; whole = yes_eqb e }

frame_fits : (w reg n : ℕ) → reg < 65536 → n < 2 ^ 31 → RowFits w (DefCfa reg (pos n))
unfolding pick kind_of reg_of offset_of other_of row_whole whole_below
frame_fits w reg n r l = record { reg = r; off = l; other = omega arith; whole = tt }

returned : Machine → List Row
returned m = Offset m.ret (neg_ℤ (pos m.pushed)) ∷ []

implied_ok : (m : Machine) → MachineFits m → RowsOk m.word (implied m) × (length (implied m) ≤ 2)
unfolding implied returned
implied_ok m fit =
    let frame = frame_fits m.word m.stack m.pushed fit.stack_small fit.pushed_small in
    tested (eqb m.pushed 0) (λ t. rw (pick_yes (eqb m.pushed 0) [] (returned m) t) ((frame, tt), omega arith))
    (λ t.
    rw (pick_no (eqb m.pushed 0) [] (returned m) t)
    (let n : m.pushed ≢ 0 = eqb_no t in
    ((frame, (below_fits m.word m.ret m.pushed (omega arith) fit.ret_small fit.pushed_small fit.pushed_whole, tt)), omega arith)))

-- ---- all of them

rows_join : (w : ℕ) (rs ss : List Row) → RowsOk w rs → RowsOk w ss → RowsOk w (rs ++ ss)
rows_join w [] ss ok ok' = ok'
rows_join w (r ∷ rs) ss ok ok' = (ok.0, rows_join w rs ss ok.1 ok')

given_ok : (simple : Bool) (m : Machine) → MachineFits m → RowsOk m.word (pick simple [] (implied m)) × (length (pick simple [] (implied m)) ≤ 2)
unfolding pick
given_ok true m fit = (tt, omega arith)
given_ok false m fit = implied_ok m fit

pub leading_ok : (m : Machine) (f : Function) → MachineFits m → RowsAtOk m.word 0 f.rows → RowsOk m.word (leading m f)
unfolding leading
leading_ok m f fit ok = rows_join m.word (pick f.simple [] (implied m)) (ahead f.rows) (given_ok f.simple m fit).0 (ahead_ok m.word f.rows ok)

-- two may be implied, and each other row stands in one of the two places
pub leading_count : (m : Machine) (f : Function) → MachineFits m → length (leading m f) + length (others f.rows) ≤ 2 + length f.rows
unfolding leading
leading_count m f fit = rw length-append (omega (arith, (given_ok f.simple m fit).1, ahead_count f.rows))
