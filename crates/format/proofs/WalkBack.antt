-- Running the bytes of rows runs the rows.
use mathlib.Core.Path.{◌≡◌, refl, ap, ◌∙◌}
use Prim.Native.Nat.{ℕ, zero, suc, ◌+◌, ◌-◌, ◌^◌, ◌≤◌, ◌<◌}
use native.Mathlib.Omega.{arith}
use native.Mathlib.Nat.{le_refl}
use mathlib.Core.Bool.{Bool, true, false}
use mathlib.Core.Option.{some}
use mathlib.Core.List.{List, [], ◌∷◌, ◌++◌, append_assoc}
use lib.ListN.{length, replicate, length-append, length-replicate}
use lib.Dec.{leb}
use Rattle.format.specs.Prelude.{pick, Result, good, onward}
use Rattle.format.specs.declared.Row.{Row}
use Rattle.format.specs.declared.Rule.{Rule}
use Rattle.format.specs.declared.Operation.{Operation}
use Rattle.format.specs.declared.Operation.TheVariants.{Step, Does}
use Rattle.format.specs.Rows.{RowAt, row_bytes, step_bytes, stepped_bytes, rows_bytes, read_extended, read_operation}
use Rattle.format.specs.Rules.{State, act}
use Rattle.format.specs.Reader.{perform, when_read, run_f, run}
use Rattle.format.proofs.RowsRun.{act_all, while}
use Rattle.format.proofs.Choice.{if-le, if-gt, either}
use Rattle.format.proofs.RowBack.{RowFits, row_back, steps_back, step_none}
use Rattle.format.proofs.Onward.{onward_ext}

-- ---- which rows are written

-- offsets from `at` on that do not fall, with steps that 32 bits hold
abbrev pub RowsAtOk : ℕ → ℕ → List RowAt → Type 0
RowsAtOk w at [] = Unit
RowsAtOk w at (x ∷ xs) = (at ≤ x.0) × (x.0 - at < 2 ^ 32) × RowFits w x.1 × RowsAtOk w x.0 xs

abbrev pub RowsOk : ℕ → List Row → Type 0
RowsOk w [] = Unit
RowsOk w (r ∷ rs) = RowFits w r × RowsOk w rs

-- ---- one operation

pub pick_over : {A B : Type 0} (f : A → B) (b : Bool) (x y : A) → pick b (f x) (f y) ≡ f (pick b x y)
unfolding pick
pick_over f true x y = refl
pick_over f false x y = refl

-- the bytes e are read as op, whatever follows
abbrev pub Reads : ℕ → List ℕ → Operation → Type 0
Reads w e op = (rest : List ℕ) → read_operation w (e ++ rest) ≡ some (op, rest)

pub reads_long : (w : ℕ) (e : List ℕ) (op : Operation) → Reads w e op → 1 ≤ length e
unfolding read_operation
reads_long w [] op h = let e = h [] in let z : ◌≡◌ {A = ℕ} 0 1 = cc in omega arith
reads_long w (b ∷ e) op h = omega arith

module _ (header : Bool) (w p : ℕ) (init : ℕ → Rule) where
  abbrev pub running : ℕ → ℕ → State → List ℕ → Result State
  running = run_f header w p init

  run_op : (f loc : ℕ) (s : State) (bs : List ℕ) (op : Operation) (r : List ℕ) → read_operation w bs ≡ some (op, r)
      → running (suc f) loc s bs ≡ perform header p init op loc s λ loc' t. running f loc' t r
  unfolding run_f when_read read_operation
  run_op f loc s [] op r e = cc
  run_op f loc s (b ∷ bs) op r e = rw e

  pub run_pad : (n f loc : ℕ) (s : State) → n ≤ f → running f loc s (replicate n 0) ≡ good s
  unfolding run_f when_read read_operation read_extended perform pick
  run_pad zero zero loc s h = refl
  run_pad zero (suc f) loc s h = refl
  run_pad (suc n) zero loc s h = absurd (omega arith)
  run_pad (suc n) (suc f) loc s h = run_pad n f loc s (omega arith)

  -- what a run of ys finds from loc on
  abbrev pub Finds : ℕ → List ℕ → (State → Result State) → Type 0
  Finds loc ys k = (f : ℕ) (s : State) → length ys ≤ f → running f loc s ys ≡ k s

  -- bytes that are read as op, in front of ys
  pub run_one : (e ys : List ℕ) (op : Operation) (loc : ℕ) (k : State → Result State) → Reads w e op
      → ((f : ℕ) (s : State) → length ys ≤ f → perform header p init op loc s (λ loc' t. running f loc' t ys) ≡ k s) → Finds loc (e ++ ys) k
  run_one e ys op loc k h c zero s len = absurd (omega (arith, length-append e ys, reads_long w e op h))
  run_one e ys op loc k h c (suc f) s len =
      run_op f loc s (e ++ ys) op ys (h ys) ∙ c f s (omega (arith, length-append e ys, reads_long w e op h))

  pub run_row : (r : Row) (loc : ℕ) (ys : List ℕ) (k : State → Result State) → RowFits w r → Finds loc ys k
      → Finds loc (row_bytes w r ++ ys) (λ s. onward (act header init r s) k)
  unfolding perform
  run_row r loc ys k ok h =
      run_one (row_bytes w r) ys (Does r) loc _ (λ rest. row_back w r rest ok) λ f s len. onward_ext (act header init r s) _ k λ t. h f t len

  run_rows : (rs : List Row) (n loc : ℕ) → RowsOk w rs → Finds loc (rows_bytes w rs ++ replicate n 0) (act_all header init rs)
  unfolding rows_bytes act_all
  run_rows [] n loc ok = λ f s len. run_pad n f loc s (omega (arith, length-replicate {A = ℕ} n 0))
  run_rows (r ∷ rs) n loc ok =
      rw append_assoc (run_row r loc (rows_bytes w rs ++ replicate n 0) (act_all header init rs) ok.0 (run_rows rs n loc ok.1))

module _ (w p : ℕ) (init : ℕ → Rule) where
  -- a step to `to`, not before loc, in front of what is known from `to` on
  module _ (loc to : ℕ) (ys : List ℕ) (k : State → Result State) (hl : loc ≤ to) (ht : to - loc < 2 ^ 32) (hp : loc ≤ p) (h : to ≤ p → Finds false w p init to ys k) where
    some_step : 0 < to - loc → Finds false w p init loc (step_bytes (to - loc) ++ ys) (λ s. pick (leb to p) (k s) (good s))
    unfolding perform pick
    some_step l =
        run_one false w p init (step_bytes (to - loc)) ys (Step (to - loc)) loc _ (λ rest. steps_back w (to - loc) rest l ht) λ f s len.
        let there : loc + (to - loc) ≡ to = omega arith in
        rw there
        (either to p (λ a. rw (h a f s len))
        (λ b. rw (if-gt to p (running false w p init f to s ys) (good s) b, if-gt to p (k s) (good s) b)))

    no_step : to - loc ≡ 0 → Finds false w p init loc (step_bytes (to - loc) ++ ys) (λ s. pick (leb to p) (k s) (good s))
    no_step l f s len =
        let here : loc ≡ to = omega arith in
        let near : to ≤ p = omega arith in
        let none' : step_bytes (to - loc) ≡ [] = ap step_bytes l ∙ step_none in
        rw (none', if-le to p) (rw here (h near f s (rw none' at len)))

    run_step : Finds false w p init loc (step_bytes (to - loc) ++ ys) (λ s. pick (leb to p) (k s) (good s))
    run_step = either 1 (to - loc) some_step λ g. no_step (omega arith)

  run_rows_at : (xs : List RowAt) (n loc : ℕ) → RowsAtOk w loc xs → loc ≤ p
      → Finds false w p init loc (stepped_bytes w loc xs ++ replicate n 0) (λ s. act_all false init (while p xs) s)
  unfolding stepped_bytes while act_all
  run_rows_at [] n loc ok hp f s len = run_pad false w p init n f loc s (omega (arith, length-replicate {A = ℕ} n 0))
  run_rows_at (x ∷ xs) n loc ok hp f s len =
      let zs : List ℕ = stepped_bytes w x.0 xs ++ replicate n 0 in
      let whole : stepped_bytes w loc (x ∷ xs) ++ replicate n 0 ≡ step_bytes (x.0 - loc) ++ (row_bytes w x.1 ++ zs) = simp append_assoc in
      rw whole
      (run_step loc x.0 (row_bytes w x.1 ++ zs) (λ t. act_all false init (x.1 ∷ while p xs) t) ok.0 ok.1 hp
      (λ a. run_row false w p init x.1 x.0 zs (λ t. act_all false init (while p xs) t) ok.2 (run_rows_at xs n x.0 ok.3 a))
      f s (rw whole at len)
      ∙ pick_over (λ rs. act_all false init rs s) (leb x.0 p) (x.1 ∷ while p xs) [])

-- The bytes of a function's rows and zeros behind them, run to p: the rows while their offset is at most p.
pub rows_at_back : (w p : ℕ) (init : ℕ → Rule) (xs : List RowAt) (n : ℕ) (s : State) → RowsAtOk w 0 xs
    → run false w p init s (stepped_bytes w 0 xs ++ replicate n 0) ≡ act_all false init (while p xs) s
unfolding run
rows_at_back w p init xs n s ok = run_rows_at w p init xs n 0 ok (omega arith) _ s (le_refl _)

-- The bytes of a header's rows and zeros behind them: all of the rows.
pub rows_back : (w p : ℕ) (init : ℕ → Rule) (rs : List Row) (n : ℕ) (s : State) → RowsOk w rs
    → run true w p init s (rows_bytes w rs ++ replicate n 0) ≡ act_all true init rs s
unfolding run
rows_back w p init rs n s ok = run_rows true w p init rs n 0 ok _ s (le_refl _)
