-- The loop over a prologue's rows, and the loop to its end.
use mathlib.Core.Path.{◌≡◌, sym, ap, ◌∙◌}
use Prim.Native.Nat.{ℕ, zero, suc, ◌+◌, ◌-◌, ◌^◌, ◌≤◌, ◌<◌}
use native.Mathlib.Omega.{arith}
use native.Mathlib.Numerals.{add-one}
use mathlib.Core.Bool.{Bool, true, false}
use mathlib.Core.List.{List, ◌∷◌}
use lib.Dec.{eqb}
use Rattle.std.specs.Prelude.{Option, Some, None, MatchOption, unwrap_or}
use Rattle.format.specs.Prelude.{pick, Result, good, bad, onward, each}
use Rattle.format.specs.declared.Machine.{Machine}
use Rattle.format.specs.declared.Row.{Row}
use Rattle.format.specs.declared.Row.TheVariants.{DefCfa, DefCfaOffset, DefCfaRegister, Offset, Restore, Undefined, RememberState, RestoreState, NegateRaState, SameValue, InRegister}
use Rattle.format.specs.Rows.{kind_of, offset_of}
use Rattle.format.specs.Lists.{field, row_stride, row_at}
use Rattle.format.specs.X64.{before_remember}
use Rattle.format.proofs.Choice.{either, tested, is_true, is_false, picked}
use Rattle.header_keys.proofs.Counting.{remembers}
use Rattle.prologue.specs.declared.Walk.{Walk}
use Rattle.prologue.specs.Groups.{joined, joins, third, stepped, added, lone_in, push_in, last_in, row_in, walk_from, start}
use Rattle.prologue.specs.Readable.{Ready, Short}
use Rattle.prologue.proofs.Neighbours.{joined_above}
use Rattle.prologue.proofs.Rows.{row_at_short}
use Rattle.prologue.proofs.Walked.{at_push, at_lone, turned}

-- ---- the distance keeps to 32 bits

-- of what is known, where there is no question
abbrev IfShort : Result Walk → Type 0
IfShort (good w) = Short w.below
IfShort (bad n) = Unit {0}

module _ (m : Machine) (w : Walk) (h : Short w.below) where
  lone_short : (last : Bool) (r : Row) → Short (offset_of r) → IfShort (lone_in m last r w)
  unfolding lone_in added stepped offset_of
  lone_short last (DefCfa reg z) k = picked IfShort _ h tt
  lone_short last (DefCfaOffset z) k = k
  lone_short last (DefCfaRegister reg) k = picked IfShort _ h tt
  lone_short last (Offset reg z) k = h
  lone_short last (Restore reg) k = tt
  lone_short last (Undefined reg) k = tt
  lone_short last RememberState k = tt
  lone_short last RestoreState k = tt
  lone_short last NegateRaState k = tt
  lone_short last (SameValue reg) k = tt
  lone_short last (InRegister reg other) k = tt

  push_short : (a b : Row) → Short (offset_of a) → IfShort (push_in m a b w)
  unfolding push_in added stepped
  push_short a b k = picked IfShort _ k tt

  module _ (rows : List ℕ) (at end i : ℕ) (r : Ready rows at end) (low : at ≤ i) (high : i < end) where
    last_short : IfShort (last_in m rows at end i w)
    last_short =
        tested (joined rows at i)
        (λ t.
        let e = is_true (joined rows at i) t in
        let l = joined_above rows at i e in
        rw (at_push m rows at end i w e) (push_short (row_at rows (i - 1)).1 (row_at rows i).1 (row_at_short rows (i - 1) (r.ok (i - 1) (omega arith) (omega arith)))))
        (λ t.
        rw (at_lone m rows at end i w (is_false (joined rows at i) t)) (lone_short (eqb (suc i) end) (row_at rows i).1 (row_at_short rows i (r.ok i low high))))

    row_in_short : IfShort (row_in m rows at end i w)
    unfolding row_in
    row_in_short = picked IfShort (third rows at i) tt (picked IfShort (joins rows i end) h last_short)

-- ---- the rows read

-- at row i, what is left decides
pub record Walking (m : Machine) (rows : List ℕ) (end i : ℕ) (w : Walk) : Type 0 where
  pub high : i ≤ end
  pub short : Short w.below
  pub rest : walk_from m rows 0 end 0 end (start m) ≡ walk_from m rows 0 end i (end - i) w

pub walk_start : (m : Machine) (rows : List ℕ) (end : ℕ) → m.pushed < 2 ^ 31 → Walking m rows end 0 (start m)
unfolding start
walk_start m rows end l = let e : end ≡ end - 0 = omega arith in record { high = omega arith; short = l; rest = ap (λ n. walk_from m rows 0 end 0 n (start m)) e }

module _ {m : Machine} {rows : List ℕ} {end i : ℕ} {w : Walk} (c : Walking m rows end i w) where
  module _ {v : Result Walk} (h : i < end) (e : row_in m rows 0 end i w ≡ v) where
    here : walk_from m rows 0 end 0 end (start m) ≡ onward v (walk_from m rows 0 end (i + 1) (end - (i + 1)))
    here =
        let f : end - i ≡ suc (end - suc i) = omega arith in
        c.rest ∙ rw (f, add-one) (turned m rows 0 end i (end - suc i) w v e)

  pub walk_turn : {v : Walk} → i < end → row_in m rows 0 end i w ≡ good v → Ready rows 0 end → Walking m rows end (i + 1) v
  unfolding onward
  walk_turn h e r = record { high = omega arith; short = rw e at (row_in_short m w c.short rows 0 end i r (omega arith) h); rest = here h e }

  pub walk_stopped : {n : ℕ} → i < end → row_in m rows 0 end i w ≡ bad n → walk_from m rows 0 end 0 end (start m) ≡ bad n
  unfolding onward
  walk_stopped h e = here h e

  pub walk_ended : end ≤ i → walk_from m rows 0 end 0 end (start m) ≡ good w
  unfolding walk_from
  walk_ended h = let e : end - i ≡ 0 = omega arith in c.rest ∙ rw e

-- ---- the rows before the first RememberState

pub remembers_is : (rows : List ℕ) (i : ℕ) → eqb (field row_stride rows i 1) 6 ≡ eqb (kind_of (row_at rows i).1) 6
unfolding row_at
remembers_is rows i = sym (remembers (field row_stride rows i 1) (field row_stride rows i 2) (field row_stride rows i 3))

-- no row of those from `at` to i is one, and row i is, or n is over
pub before_is : (rows : List ℕ) (at i n : ℕ) → at ≤ i → i ≤ at + n → ((k : ℕ) → at ≤ k → k < i → eqb (kind_of (row_at rows k).1) 6 ≡ false)
    → (i < at + n → eqb (kind_of (row_at rows i).1) 6 ≡ true) → before_remember (each (row_at rows) at n) ≡ each (row_at rows) at (i - at)
unfolding before_remember each pick
before_is rows at i zero h l other one = let e : i - at ≡ 0 = omega arith in rw e
before_is rows at i (suc n) h l other one =
    either i at
    (λ s.
    let e : i - at ≡ 0 = omega arith in
    let f : i ≡ at = omega arith in
    let g : eqb (kind_of (row_at rows at).1) 6 ≡ true = rw f at (one (omega arith)) in
    rw (e, g))
    (λ s.
    let e : i - at ≡ suc (i - suc at) = omega arith in
    rw (e, other at (omega arith) s) (ap (λ rs. row_at rows at ∷ rs) (before_is rows (suc at) i n (omega arith) (omega arith) (λ k g m. other k (omega arith) m) (λ m. one (omega arith)))))

-- the first row that `find` found, or none
pub first_is : (rows : List ℕ) (end : ℕ) (r : Option ℕ)
    → MatchOption r ((k : ℕ) → 0 ≤ k → k < end → eqb (kind_of (row_at rows k).1) 6 ≡ false)
    (λ i. (0 ≤ i) × (i < end) × (eqb (kind_of (row_at rows i).1) 6 ≡ true) × ((k : ℕ) → 0 ≤ k → k < i → eqb (kind_of (row_at rows k).1) 6 ≡ false))
    → (unwrap_or r end ≤ end) × (before_remember (each (row_at rows) 0 end) ≡ each (row_at rows) 0 (unwrap_or r end))
first_is rows end None h = let e : end - 0 ≡ end = omega arith in (omega arith, rw e at (before_is rows 0 end end (omega arith) (omega arith) h (λ k. absurd (omega arith))))
first_is rows end (Some i) h = let e : i - 0 ≡ i = omega arith in (omega (arith, h.1), rw e at (before_is rows 0 i end (omega arith) (omega (arith, h.1)) h.3 (λ k. h.2)))
