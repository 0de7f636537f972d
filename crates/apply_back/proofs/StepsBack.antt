-- Steps with other contents: in the form that was chosen for the written step, the operand may be any number that the form holds.
use mathlib.Core.Path.{◌≡◌, ◌∙◌}
use Prim.Native.Nat.{ℕ, ◌+◌, ◌-◌, ◌≤◌}
use native.Mathlib.Omega.{arith}
use native.Mathlib.Nat.{le_refl}
use mathlib.Core.Bool.{false}
use mathlib.Core.Logic.{◌≢◌}
use mathlib.Core.List.{List, [], ◌∷◌, ◌++◌, append_assoc}
use lib.ListN.{replicate, length-replicate}
use lib.Dec.{leb, eqb}
use Rattle.format.specs.Prelude.{pick, Result, good}
use Rattle.format.specs.declared.Rule.{Rule}
use Rattle.format.specs.declared.Operation.TheVariants.{Step}
use Rattle.format.specs.Rows.{RowAt, row_bytes, step_in, step_form}
use Rattle.format.specs.Lists.{Pair}
use Rattle.format.specs.Rules.{State}
use Rattle.format.specs.Reader.{perform, run}
use Rattle.format.proofs.Choice.{if-le, if-gt, if-eq, if-ne, either}
use Rattle.format.proofs.RowsRun.{act_all, while}
use Rattle.format.proofs.RowBack.{RowFits, Holds, step_back}
use Rattle.format.proofs.WalkBack.{Finds, running, run_pad, run_one, run_row, pick_over}
use Rattle.apply_back.specs.Moved.{new_step, moved_from}

-- a step that was written as `written`, with n in its operand; a step of 0 is not there
unfoldable pub step_with : (written n : ℕ) → List ℕ
step_with written n = pick (eqb written 0) [] (step_in (step_form written) n)

-- rows with the steps between them, each with its new contents
unfoldable pub stepped_with : ℕ → List (ℕ × ℕ) → List Pair → (from : ℕ) → List RowAt → List ℕ
stepped_with w ss ps from [] = []
stepped_with w ss ps from (x ∷ xs) = step_with (x.0 - from) (new_step ss ps from x.0) ++ (row_bytes w x.1 ++ stepped_with w ss ps x.0 xs)

-- the form of a step holds its new contents; where none is written nothing is moved
pub record StepHolds (written n : ℕ) : Type 0 where
  pub holds : Holds (step_form written) n
  pub none : written ≡ 0 → n ≡ 0

abbrev pub StepsHold : ℕ → List (ℕ × ℕ) → List Pair → (from : ℕ) → List RowAt → Type 0
StepsHold w ss ps from [] = Unit {0}
StepsHold w ss ps from (x ∷ xs) = StepHolds (x.0 - from) (new_step ss ps from x.0) × RowFits w x.1 × StepsHold w ss ps x.0 xs

module _ (w p : ℕ) (init : ℕ → Rule) where
  -- a step in front of what is known from behind it on
  module _ (loc written n : ℕ) (ys : List ℕ) (k : State → Result State) (ok : StepHolds written n) (hp : loc ≤ p)
      (h : loc + n ≤ p → Finds false w p init (loc + n) ys k) where
    some_step : written ≢ 0 → Finds false w p init loc (step_with written n ++ ys) (λ s. pick (leb (loc + n) p) (k s) (good s))
    unfolding step_with perform pick
    some_step l =
        rw (if-ne written 0)
        (run_one false w p init (step_in (step_form written) n) ys (Step n) loc _ (λ rest. step_back w (step_form written) n rest ok.holds) λ f s len.
        either (loc + n) p (λ a. rw (h a f s len))
        (λ b. rw (if-gt (loc + n) p (running false w p init f (loc + n) s ys) (good s) b, if-gt (loc + n) p (k s) (good s) b)))

    no_step : written ≡ 0 → Finds false w p init loc (step_with written n ++ ys) (λ s. pick (leb (loc + n) p) (k s) (good s))
    unfolding step_with
    no_step l f s len =
        let here : loc + n ≡ loc = omega (arith, ok.none l) in
        let near : loc + n ≤ p = omega arith in
        let none' : step_with written n ≡ [] = if-eq written 0 _ _ l in
        rw (none', if-le (loc + n) p) (rw here at (h near) f s (rw none' at len))

    run_step : Finds false w p init loc (step_with written n ++ ys) (λ s. pick (leb (loc + n) p) (k s) (good s))
    run_step = either 1 written (λ l. some_step (λ e. omega arith)) λ g. no_step (omega arith)

  run_moved : (ss : List (ℕ × ℕ)) (ps : List Pair) (xs : List RowAt) (n from loc : ℕ) → StepsHold w ss ps from xs → loc ≤ p
      → Finds false w p init loc (stepped_with w ss ps from xs ++ replicate n 0) (λ s. act_all false init (while p (moved_from ss ps from loc xs)) s)
  unfolding stepped_with moved_from while act_all
  run_moved ss ps [] n from loc ok hp f s len = run_pad false w p init n f loc s (omega (arith, length-replicate {A = ℕ} n 0))
  run_moved ss ps (x ∷ xs) n from loc ok hp f s len =
      let d : ℕ = new_step ss ps from x.0 in
      let zs : List ℕ = stepped_with w ss ps x.0 xs ++ replicate n 0 in
      let later : List RowAt = moved_from ss ps x.0 (loc + d) xs in
      let whole : stepped_with w ss ps from (x ∷ xs) ++ replicate n 0 ≡ step_with (x.0 - from) d ++ (row_bytes w x.1 ++ zs) = simp append_assoc in
      rw whole
      (run_step loc (x.0 - from) d (row_bytes w x.1 ++ zs) (λ t. act_all false init (x.1 ∷ while p later) t) ok.0 hp
      (λ a. run_row false w p init x.1 (loc + d) zs (λ t. act_all false init (while p later) t) ok.1 (run_moved ss ps xs n x.0 (loc + d) ok.2 a))
      f s (rw whole at len)
      ∙ pick_over (λ rs. act_all false init rs s) (leb (loc + d) p) (x.1 ∷ while p later) [])

-- Steps with new contents, rows, and zeros behind them, run to p: the moved rows while their offset is at most p.
pub moved_back : (w p : ℕ) (init : ℕ → Rule) (ss : List (ℕ × ℕ)) (ps : List Pair) (xs : List RowAt) (n : ℕ) (s : State) → StepsHold w ss ps 0 xs
    → run false w p init s (stepped_with w ss ps 0 xs ++ replicate n 0) ≡ act_all false init (while p (moved_from ss ps 0 0 xs)) s
unfolding run
moved_back w p init ss ps xs n s ok = run_moved w p init ss ps xs n 0 0 ok (omega arith) _ s (le_refl _)
