-- A run of rows beside the rules and the row check: it comes to what the rules say, or refuses where the check says no.
use mathlib.Core.Path.{◌≡◌, refl, ◌∙◌, subst}
use Prim.Native.Nat.{ℕ}
use mathlib.Core.Bool.{Bool, true, false, not, ◌&&◌}
use mathlib.Core.Option.{none, some}
use mathlib.Core.List.{List, [], ◌∷◌, ◌++◌, map}
use lib.ListN.{length, length-map}
use lib.Dec.{T, leb, ltb, eqb}
use lib.IntN.{ℤ}
use Rattle.format.specs.Prelude.{pick, Result, good, bad, onward, all}
use mir.Facts.{and_yes, yes_and}
use Rattle.format.specs.declared.Row.{Row}
use Rattle.format.specs.declared.Row.TheVariants.{DefCfa, DefCfaOffset, DefCfaRegister, Offset, Restore, Undefined, RememberState, RestoreState, NegateRaState, SameValue, InRegister}
use Rattle.format.specs.declared.CfaRule.{CfaRule}
use Rattle.format.specs.declared.CfaRule.TheVariants.{Unset, Register}
use Rattle.format.specs.declared.Rule.{Rule}
use Rattle.format.specs.Rows.{kind_of}
use Rattle.format.specs.RowCheck.{in_order}
use Rattle.format.specs.Rules.{AllRules, State, blank, with_cfa, with_rule, reoffset, reregister, restored, negated, apply, apply_rows, without_cfa, without_stored, refusal, unless_refused, act}
use Rattle.format.proofs.RowsRun.{act_all}

-- ---- a state as the row check sees it

-- whether there is a CFA rule
abbrev framed : CfaRule → Bool
framed Unset = false
framed (Register reg z) = true

abbrev opened : State → List Bool
opened s = map (λ k. framed k.cfa) s.stored

abbrev pub in_order_from : State → List Row → Bool
in_order_from s rs = in_order (framed s.current.cfa) (opened s) rs

-- a header takes no Restore (4)
abbrev pub allowed : (header : Bool) → Row → Bool
allowed header r = not (eqb (kind_of r) 4 && header)

-- ---- a run's result beside the check's

-- The run comes to t, its rows are allowed, and what the check said of all is what it says of the rest; or the run refuses and the check says no.
pub data Ran (result : Result State) (t : State) (allow whole rest : Bool) : Type 0 where
  on : result ≡ good t → T allow → whole ≡ rest → Ran result t allow whole rest
  off : (n : ℕ) → T (leb 67 n && leb n 69) → result ≡ bad n → (T allow → T whole → ⊥) → Ran result t allow whole rest

-- one run behind the other
link : {result : Result State} {t u : State} {allow allow' whole middle rest : Bool} (k : State → Result State)
    → Ran result t allow whole middle → Ran (k t) u allow' middle rest → Ran (onward result k) u (allow && allow') whole rest
unfolding onward
link {allow} {allow'} k (on e a w) (on e' a' w') = on (rw e e') (yes_and allow allow' a a') (w ∙ w')
link {allow} {allow'} k (on e a w) (off n b e' never) =
    off n b (rw e e') (λ x y. never (and_yes allow allow' x).1 (subst (λ (v : Bool). T v) w y))
link {allow} {allow'} k (off n b e never) r = off n b (rw e) (λ x y. never (and_yes allow allow' x).0 y)

pub ran_yes : {result : Result State} {t : State} {allow whole rest : Bool} → Ran result t allow whole rest → T allow → T whole → result ≡ good t
ran_yes (on e a w) x y = e
ran_yes (off n b e never) x y = absurd (never x y)

pub ran_no : {result : Result State} {t : State} {allow whole : Bool} → Ran result t allow whole true → (T allow → T whole → ⊥)
    → (n : ℕ) × ((result ≡ bad n) × T (leb 67 n && leb n 69))
ran_no (on e a w) never = absurd (never a (rw w tt))
ran_no (off n b e never) x = (n, (e, b))

-- ---- one row

module _ (header : Bool) (init : ℕ → Rule) (rs : List Row) (s : State) where
  abbrev Step : Row → Type 0
  Step r = Ran (act header init r s) (apply init r s) (allowed header r) (in_order_from s (r ∷ rs)) (in_order_from (apply init r s) rs)

  -- the CFA rule c, changed
  changed : (to : CfaRule → CfaRule) → to Unset ≡ Unset → ((reg : ℕ) (z : ℤ) → framed (to (Register reg z)) ≡ true) → (c : CfaRule)
      → Ran (unless_refused (without_cfa c) (with_cfa (to c) s)) (with_cfa (to c) s) true (framed c && in_order (framed c) (opened s) rs)
      (in_order (framed (to c)) (opened s) rs)
  unfolding unless_refused without_cfa
  changed to e h Unset = off 69 tt refl λ a w. w
  changed to e h (Register reg z) = on refl tt (rw (h reg z))

  step : (r : Row) → Step r
  unfolding act refusal unless_refused in_order apply with_cfa with_rule kind_of reoffset reregister restored negated without_stored pick
  step (DefCfa reg z) = on refl tt refl
  step (DefCfaOffset z) = changed (reoffset z) refl (λ r y. refl) s.current.cfa
  step (DefCfaRegister reg) = changed (reregister reg) refl (λ r y. refl) s.current.cfa
  step (Offset reg z) = on refl tt refl
  step (Restore reg) = by header
    where
      by : (b : Bool)
          → Ran (unless_refused (pick b (some 67) none) (with_rule reg (init reg) s)) (with_rule reg (init reg) s) (not b) (in_order_from s rs) (in_order_from s rs)
      by true = off 67 tt refl λ a w. a
      by false = on refl tt refl
  step (Undefined reg) = on refl tt refl
  step RememberState = simp length-map (by (ltb (length s.stored) 16))
    where
      by : (b : Bool)
          → Ran (unless_refused (pick b none (some 68)) (apply init RememberState s)) (apply init RememberState s) true (b && in_order_from (apply init RememberState s) rs) (in_order_from (apply init RememberState s) rs)
      by true = on refl tt refl
      by false = off 68 tt refl λ a w. w
  step RestoreState = by s.stored
    where
      by : (ks : List AllRules)
          → Ran (unless_refused (without_stored ks) (restored ks s)) (restored ks s) true (in_order (framed s.current.cfa) (map (λ k. framed k.cfa) ks) (RestoreState ∷ rs)) (in_order_from (restored ks s) rs)
      by [] = off 67 tt refl λ a w. w
      by (k ∷ ks) = on refl tt refl
  step NegateRaState = on refl tt refl
  step (SameValue reg) = on refl tt refl
  step (InRegister reg other) = on refl tt refl

-- ---- rows, with others behind them

module _ (header : Bool) (init : ℕ → Rule) where
  pub ran : (rs others : List Row) (s : State)
      → Ran (act_all header init rs s) (apply_rows init rs s) (all (allowed header) rs) (in_order_from s (rs ++ others)) (in_order_from (apply_rows init rs s) others)
  unfolding act_all apply_rows all
  ran [] others s = on refl tt refl
  ran (r ∷ rs) others s = link (act_all header init rs) (step header init (rs ++ others) s r) (ran rs others (apply init r s))

-- leading rows, then others, then those that the run does not come to
pub whole : (lead rs rest : List Row)
    → let e : State = apply_rows blank.current.rules lead blank in
    let end : State = apply_rows e.current.rules rs e in
    Ran (onward (act_all true blank.current.rules lead blank) λ s. act_all false s.current.rules rs s) end
    (all (allowed true) lead && all (allowed false) rs) (in_order false [] (lead ++ (rs ++ rest))) (in_order_from end rest)
unfolding blank
whole lead rs rest =
    let e : State = apply_rows blank.current.rules lead blank in
    link (λ s. act_all false s.current.rules rs s) (ran true blank.current.rules lead (rs ++ rest) blank) (ran false e.current.rules rs rest e)
