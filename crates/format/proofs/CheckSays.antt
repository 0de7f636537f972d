-- What the row check says of a function's rows: a yes is an answer by the rules everywhere, a no a refusal at the last row.
use mathlib.Core.Path.{◌≡◌, refl, ap}
use Prim.Native.Nat.{ℕ, ◌-◌, ◌^◌, ◌≤◌, ◌<◌}
use native.Mathlib.Omega.{arith}
use mathlib.Core.Bool.{Bool, true, false, not, ◌&&◌, ◌||◌}
use mathlib.Core.List.{List, [], ◌∷◌, ◌++◌, append-nil, append_assoc}
use lib.Dec.{T, T_not, leb, ltb, eqb, leb→le}
use mir.Facts.{and_yes, yes_and}
use Rattle.format.specs.Prelude.{pick, good, bad, all}
use Rattle.format.specs.declared.Machine.{Machine}
use Rattle.format.specs.declared.Row.{Row}
use Rattle.format.specs.declared.Row.TheVariants.{DefCfa, DefCfaOffset, DefCfaRegister, Offset, Restore, Undefined, RememberState, RestoreState, NegateRaState, SameValue, InRegister}
use Rattle.format.specs.Rows.{RowAt, kind_of}
use Rattle.format.specs.Lists.{Function}
use Rattle.format.specs.Headers.{implied, leads, ahead, others, leading}
use Rattle.format.specs.Questions.{steps_ok}
use Rattle.format.specs.RowCheck.{may_lead, in_order, rows_of, row_check}
use Rattle.format.specs.Rules.{up_to, entry_state, rules_at}
use Rattle.format.proofs.Choice.{tested, pick_yes, pick_no, if-le, if-gt, either}
use Rattle.format.proofs.RowsRun.{while, run_rows}
use Rattle.format.proofs.RulesSeen.{allowed, ran_yes, ran_no, whole}

-- ---- rows in order of their offsets

-- the steps of the rows behind the first, and that the first does not go back
stepped : (at : ℕ) (x : RowAt) (xs : List RowAt) → T (steps_ok at (x ∷ xs)) → (at ≤ x.0) × T (steps_ok x.0 xs)
unfolding steps_ok
stepped at x xs t =
    let h = and_yes (leb at x.0 && ltb (x.0 - at) (2 ^ 32)) (steps_ok x.0 xs) t in
    (leb→le at x.0 (and_yes (leb at x.0) (ltb (x.0 - at) (2 ^ 32)) h.0).0, h.1)

pub none_later : (p at : ℕ) (xs : List RowAt) → T (steps_ok at xs) → p < at → up_to p xs ≡ []
unfolding up_to
none_later p at [] t h = refl
none_later p at (x ∷ xs) t h =
    let s : (at ≤ x.0) × T (steps_ok x.0 xs) = stepped at x xs t in
    let l : p < x.0 = omega arith in
    rw (if-gt x.0 p) (none_later p x.0 xs s.1 l)

pub while_up_to : (p at : ℕ) (xs : List RowAt) → T (steps_ok at xs) → while p xs ≡ up_to p xs
unfolding while up_to
while_up_to p at [] t = refl
while_up_to p at (x ∷ xs) t =
    let s : (at ≤ x.0) × T (steps_ok x.0 xs) = stepped at x xs t in
    either x.0 p
    (λ l. rw (if-le x.0 p, if-le x.0 p, while_up_to p x.0 xs s.1))
    (λ g. rw (if-gt x.0 p, if-gt x.0 p, none_later p x.0 xs s.1))

-- the offset of the last row, where there is one, else `at`
abbrev pub last_at : ℕ → List RowAt → ℕ
last_at at [] = at
last_at at (x ∷ xs) = last_at x.0 xs

-- p is at or past the last row
abbrev pub Past : ℕ → List RowAt → Type 0
Past p xs = last_at 0 xs ≤ p

last_after : (at : ℕ) (xs : List RowAt) → T (steps_ok at xs) → at ≤ last_at at xs
last_after at [] t = omega arith
last_after at (x ∷ xs) t =
    let s : (at ≤ x.0) × T (steps_ok x.0 xs) = stepped at x xs t in
    omega (arith, last_after x.0 xs s.1)

while_all : (p at : ℕ) (xs : List RowAt) → T (steps_ok at xs) → last_at at xs ≤ p → while p xs ≡ rows_of xs
unfolding while rows_of
while_all p at [] t h = refl
while_all p at (x ∷ xs) t h =
    let s : (at ≤ x.0) × T (steps_ok x.0 xs) = stepped at x xs t in
    let l : x.0 ≤ p = omega (arith, last_after x.0 xs s.1) in
    rw (if-le x.0 p) (ap (λ (rs : List Row). x.1 ∷ rs) (while_all p x.0 xs s.1 h))

-- the rows that a run comes to, and those that it does not
pub cut : (p : ℕ) (xs : List RowAt) → (rs : List Row) × (rows_of xs ≡ while p xs ++ rs)
unfolding while rows_of
cut p [] = ([], refl)
cut p (x ∷ xs) =
    either x.0 p
    (λ l. ((cut p xs).0, rw (if-le x.0 p) (ap (λ (rs : List Row). x.1 ∷ rs) (cut p xs).1)))
    (λ g. (rows_of (x ∷ xs), rw (if-gt x.0 p)))

-- ---- leading rows and the others

-- the others are a function's rows from some row on
others_steps : (at : ℕ) (xs : List RowAt) → T (steps_ok at xs) → (b : ℕ) × (T (steps_ok b (others xs)) × (last_at b (others xs) ≡ last_at at xs))
unfolding others
others_steps at [] t = (at, (t, refl))
others_steps at (x ∷ xs) t =
    tested (leads x) (λ l. rw (pick_yes (leads x)) (others_steps x.0 xs (stepped at x xs t).1)) (λ l. rw (pick_no (leads x)) (at, (t, refl)))

rows_split : (xs : List RowAt) → rows_of xs ≡ ahead xs ++ rows_of (others xs)
unfolding rows_of ahead others
rows_split [] = refl
rows_split (x ∷ xs) =
    tested (leads x) (λ l. simp pick_yes (ap (λ (rs : List Row). x.1 ∷ rs) (rows_split xs))) (λ l. simp pick_no)

-- no RememberState (6) leads
abbrev no_remember : Row → Bool
no_remember r = not (eqb (kind_of r) 6)

ahead_none : (xs : List RowAt) → T (all no_remember (ahead xs))
unfolding ahead leads all
ahead_none [] = tt
ahead_none (x ∷ xs) =
    tested (leads x)
    (λ l. rw (pick_yes (leads x)) (yes_and (no_remember x.1) (all no_remember (ahead xs)) (and_yes (eqb x.0 0) (no_remember x.1) l).1 (ahead_none xs)))
    (λ l. rw (pick_no (leads x)) tt)

-- so a RestoreState that leads finds nothing stored: rows that a header takes, and that are in order, may lead
asked : (framed : Bool) (rs others : List Row) → T (all no_remember rs) → T (all (allowed true) rs) → T (in_order framed [] (rs ++ others)) → T (all may_lead rs)
unfolding all may_lead kind_of in_order
asked framed [] others m a o = tt
asked framed (DefCfa reg z ∷ rs) others m a o = asked true rs others m a o
asked framed (DefCfaOffset z ∷ rs) others m a o = asked framed rs others m a (and_yes framed (in_order framed [] (rs ++ others)) o).1
asked framed (DefCfaRegister reg ∷ rs) others m a o = asked framed rs others m a (and_yes framed (in_order framed [] (rs ++ others)) o).1
asked framed (Offset reg z ∷ rs) others m a o = asked framed rs others m a o
asked framed (Restore reg ∷ rs) others m a o = a
asked framed (Undefined reg ∷ rs) others m a o = asked framed rs others m a o
asked framed (RememberState ∷ rs) others m a o = absurd m
asked framed (RestoreState ∷ rs) others m a o = o
asked framed (NegateRaState ∷ rs) others m a o = asked framed rs others m a o
asked framed (SameValue reg ∷ rs) others m a o = asked framed rs others m a o
asked framed (InRegister reg other ∷ rs) others m a o = asked framed rs others m a o

-- what may lead is allowed, and behind a header everything is
may : (rs : List Row) → T (all may_lead rs) → T (all (allowed true) rs)
unfolding all may_lead
may [] t = tt
may (r ∷ rs) t =
    let h = and_yes (may_lead r) (all may_lead rs) t in
    yes_and (allowed true r) (all (allowed true) rs) (go (eqb (kind_of r) 4) (eqb (kind_of r) 7) h.0) (may rs h.1)
  where
    go : (a b : Bool) → T (not (a || b)) → T (not (a && true))
    go true b t = t
    go false b t = tt

pub any : (rs : List Row) → T (all (allowed false) rs)
unfolding all
any [] = tt
any (r ∷ rs) = yes_and (allowed false r) (all (allowed false) rs) (go (eqb (kind_of r) 4)) (any rs)
  where
    go : (a : Bool) → T (not (a && false))
    go true = tt
    go false = tt

-- the implied rows are allowed, and give the frame address rule that the check takes for granted
implied_first : (m : Machine) (simple : Bool) (rs : List Row)
    → (all (allowed true) (pick simple [] (implied m) ++ rs) ≡ all (allowed true) rs) × (in_order false [] (pick simple [] (implied m) ++ rs) ≡ in_order (not simple) [] rs)
unfolding pick implied all kind_of in_order
implied_first m true rs = (refl, refl)
implied_first m false rs = tested (eqb m.pushed 0) (λ t. simp pick_yes (refl, refl)) (λ t. simp pick_no (refl, refl))

-- ---- the whole run, and what the check says of it

module _ (m : Machine) (f : Function) where
  -- the check, asked of the rows that the run goes through
  order : in_order false [] (leading m f ++ rows_of (others f.rows)) ≡ in_order (not f.simple) [] (rows_of f.rows)
  unfolding leading
  order = rw (append_assoc, ← rows_split) (implied_first m f.simple (rows_of f.rows)).1

  allows : all (allowed true) (leading m f) ≡ all (allowed true) (ahead f.rows)
  unfolding leading
  allows = (implied_first m f.simple (ahead f.rows)).0

  pub says_yes : T (row_check f.simple f.rows) → T (all (allowed true) (leading m f)) × T (in_order false [] (leading m f ++ rows_of (others f.rows)))
  unfolding row_check
  says_yes t =
      let h = and_yes (all may_lead (ahead f.rows)) (in_order (not f.simple) [] (rows_of f.rows)) t in
      (rw allows (may (ahead f.rows) h.0), rw order h.1)

  yes_says : T (all (allowed true) (leading m f)) → T (in_order false [] (leading m f ++ rows_of (others f.rows))) → T (row_check f.simple f.rows)
  unfolding row_check
  yes_says a o =
      let o' : T (in_order (not f.simple) [] (rows_of f.rows)) = rw order at o in
      yes_and (all may_lead (ahead f.rows)) (in_order (not f.simple) [] (rows_of f.rows))
      (asked (not f.simple) (ahead f.rows) (rows_of (others f.rows)) (ahead_none f.rows) (rw allows at a) (rw rows_split at o')) o'

-- where the check says yes, the run gives the rules at p
pub rules : (m : Machine) (f : Function) (p : ℕ) → T (steps_ok 0 f.rows) → T (row_check f.simple f.rows) → run_rows m f p ≡ good (rules_at m f p)
unfolding run_rows rules_at entry_state
rules m f p steps t =
    let rs : List Row = while p (others f.rows) in
    let h = says_yes m f t in
    let c = cut p (others f.rows) in
    let s = others_steps 0 f.rows steps in
    rw (ran_yes (whole (leading m f) rs c.0) (yes_and (all (allowed true) (leading m f)) (all (allowed false) rs) h.0 (any rs)) (rw (← c.1) h.1))
    (rw (while_up_to p s.0 (others f.rows) s.1.0))

-- where it says no, the run refuses at the last row and past it
pub refuses : (m : Machine) (f : Function) (p : ℕ) → T (steps_ok 0 f.rows) → T (not (row_check f.simple f.rows)) → Past p f.rows
    → (n : ℕ) × ((run_rows m f p ≡ bad n) × T (leb 67 n && leb n 69))
unfolding run_rows in_order
refuses m f p steps t past =
    let rs : List Row = while p (others f.rows) in
    let s = others_steps 0 f.rows steps in
    let e : rs ≡ rows_of (others f.rows) = while_all p s.0 (others f.rows) s.1.0 (omega (arith, s.1.1)) in
    ran_no (whole (leading m f) rs [])
    (λ a o. T_not (row_check f.simple f.rows) t (yes_says m f (and_yes (all (allowed true) (leading m f)) (all (allowed false) rs) a).0 (rw (append-nil, e) at o)))
