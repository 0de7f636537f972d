-- A register that no operation names is unstated in every state of a run, and so keeps its value.
use mathlib.Core.Path.{◌≡◌, refl}
use Prim.Native.Nat.{ℕ, zero, suc, ◌+◌}
use native.Mathlib.Omega.{arith}
use mathlib.Core.Bool.{Bool, true, false}
use mathlib.Core.Option.{Option, none, some}
use mathlib.Core.List.{List, [], ◌∷◌}
use lib.Dec.{T, leb, ltb, eqb}
use Rattle.format.specs.Prelude.{pick, Result, good, bad, onward}
use Rattle.format.specs.declared.Row.{Row}
use Rattle.format.specs.declared.Row.TheVariants.{DefCfa, DefCfaOffset, DefCfaRegister, Offset, Restore, Undefined, RememberState, RestoreState, NegateRaState, SameValue, InRegister}
use Rattle.format.specs.declared.Rule.{Rule}
use Rattle.format.specs.declared.Rule.TheVariants as rule
use Rattle.format.specs.declared.Operation.{Operation}
use Rattle.format.specs.declared.Operation.TheVariants.{Nop, Step, Does}
use Rattle.format.specs.Rules.{AllRules, State, blank, with_cfa, with_rule, restored, negated, apply, refusal, unless_refused, act}
use Rattle.format.specs.Reader.{Found, perform, when_read, run_f, run, run_to}
use Rattle.reader.specs.Finds.{found, in_section}
use Rattle.reader.specs.declared.location.Located.{Located}
use Rattle.walked.specs.Named.{names, operation_names, Unnamed, ends, more}
use Rattle.walked.specs.Standing.{state_in, is_good, rules_of, rules_in}

abbrev AllSilent : ℕ → List AllRules → Type 0
AllSilent q [] = Unit
AllSilent q (k ∷ ks) = (k.rules q ≡ rule.Unstated) × AllSilent q ks

-- q is unstated in the rules that hold and in all that are stored
record Silent (q : ℕ) (s : State) : Type 0 where
  pub current : s.current.rules q ≡ rule.Unstated
  pub stored : AllSilent q s.stored

-- ---- a row that does not name q

module _ (q : ℕ) where
  other_rule : (reg : ℕ) (r : Rule) (s : State) → eqb q reg ≡ false → Silent q s → Silent q (with_rule reg r s)
  unfolding with_rule pick
  other_rule reg r s n k = record { current = rw n k.current; stored = k.stored }

  back : (ks : List AllRules) (s : State) → AllSilent q ks → Silent q s → Silent q (restored ks s)
  unfolding restored
  back [] s a k = k
  back (x ∷ ks) s a k = record { current = a.0; stored = a.1 }

  row_silent : (initial : ℕ → Rule) (r : Row) (s : State) → names q r ≡ false → Silent q s → Silent q (apply initial r s)
  unfolding apply names with_cfa negated
  row_silent initial (DefCfa reg z) s n k = record { current = k.current; stored = k.stored }
  row_silent initial (DefCfaOffset z) s n k = record { current = k.current; stored = k.stored }
  row_silent initial (DefCfaRegister reg) s n k = record { current = k.current; stored = k.stored }
  row_silent initial (Offset reg z) s n k = other_rule reg (rule.Saved z) s n k
  row_silent initial (Restore reg) s n k = other_rule reg (initial reg) s n k
  row_silent initial (Undefined reg) s n k = other_rule reg rule.Undefined s n k
  row_silent initial RememberState s n k = record { current = k.current; stored = (k.current, k.stored) }
  row_silent initial RestoreState s n k = back s.stored s k.stored k
  row_silent initial NegateRaState s n k = record { current = k.current; stored = k.stored }
  row_silent initial (SameValue reg) s n k = other_rule reg rule.SameValue s n k
  row_silent initial (InRegister reg other) s n k = other_rule reg (rule.InRegister other) s n k

  -- ---- a run

  good_is : {s t : State} → good s ≡ good t → Silent q s → Silent q t
  good_is {s} {t} e k = let same : s ≡ t = cc in rw same at k

  never : {n : ℕ} {t : State} → bad n ≡ good t → Silent q t
  never e = let z : ◌≡◌ {A = ℕ} 0 1 = cc in absurd (omega arith)

  either_way : (b : Bool) (x y : Result State) {t : State} → (x ≡ good t → Silent q t) → (y ≡ good t → Silent q t) → pick b x y ≡ good t → Silent q t
  unfolding pick
  either_way true x y f g e = f e
  either_way false x y f g e = g e

  unless : (o : Option ℕ) (u : State) (k : State → Result State) {t : State} → (k u ≡ good t → Silent q t) → onward (unless_refused o u) k ≡ good t → Silent q t
  unfolding unless_refused onward
  unless none u k f e = f e
  unless (some n) u k f e = never e

  module _ (header : Bool) (word p : ℕ) (initial : ℕ → Rule) where
    done : (op : Operation) (loc : ℕ) (s t : State) (k : ℕ → State → Result State) → operation_names q op ≡ false → Silent q s
        → ((m : ℕ) (u : State) → Silent q u → k m u ≡ good t → Silent q t) → perform header p initial op loc s k ≡ good t → Silent q t
    unfolding perform operation_names act
    done Nop loc s t k n h f e = f loc s h e
    done (Step n) loc s t k o h f e =
        either_way header (bad 66) (pick (leb (loc + n) p) (k (loc + n) s) (good s)) (λ b. never b)
        (λ b. either_way (leb (loc + n) p) (k (loc + n) s) (good s) (λ d. f (loc + n) s h d) (λ d. good_is d h) b) e
    done (Does row) loc s t k n h f e = unless (refusal header row s) (apply initial row s) (k loc) (λ d. f loc (apply initial row s) (row_silent initial row s n h) d) e

    run_silent : (bs : List ℕ) → Unnamed word q bs → (f loc : ℕ) (s t : State) → Silent q s → run_f header word p initial f loc s bs ≡ good t → Silent q t
    unfolding run_f when_read
    run_silent bs u zero loc s t h e = good_is e h
    run_silent [] u (suc f) loc s t h e = good_is e h
    run_silent (b ∷ bs) (ends d) (suc f) loc s t h e = never (rw d at e)
    run_silent (b ∷ bs) (more op r d n u) (suc f) loc s t h e =
        done op loc s t (λ m v. run_f header word p initial f m v r) n h (λ m v k g. run_silent r u f m v t k g) (rw d at e)

  -- ---- the whole

  both : (word p : ℕ) (x : Found) {t : State} → Unnamed word q x.header.operations → Unnamed word q x.found.operations
      → (r : Result State) → run true word p blank.current.rules blank x.header.operations ≡ r
      → onward r (λ s. run false word p s.current.rules s x.found.operations) ≡ good t → Silent q t
  unfolding run onward blank
  both word p x a b (good s) d e = run_silent false word p s.current.rules _ b _ 0 s _ (run_silent true word p _ _ a _ 0 _ s (record { current = refl; stored = tt }) d) e
  both word p x a b (bad n) d e = never e

  pub unnamed : (word p : ℕ) (x : Found) {t : State} → Unnamed word q x.header.operations → Unnamed word q x.found.operations
      → run_to word p x ≡ good t → t.current.rules q ≡ rule.Unstated
  unfolding run_to
  unnamed word p x a b e = (either_way (ltb p x.found.size) _ (bad 65) (λ d. both word p x a b _ refl d) (λ d. never d) e).current

-- ---- behind a record that was located

is_good_lem : (o : Result State) → T (is_good o) → (t : State) × (o ≡ good t)
unfolding is_good
is_good_lem (good t) g = (t, refl)
is_good_lem (bad n) g = absurd g

module _ (s : List ℕ) (l : Located) (p q : ℕ) (g : T (is_good (state_in s l p))) where
  state_run : (b : Bool) → b ≡ in_section s l → (t : State) → pick b (run_to l.word p (found s l)) (bad 64) ≡ good t → run_to l.word p (found s l) ≡ good t
  unfolding pick
  state_run true i t e = e
  state_run false i t e = let z : ◌≡◌ {A = ℕ} 0 1 = cc in absurd (omega arith)

  pub unnamed_unstated : Unnamed l.word q (found s l).header.operations → Unnamed l.word q (found s l).found.operations → (rules_in s l p).rules q ≡ rule.Unstated
  unfolding rules_in state_in rules_of
  unnamed_unstated a b =
      let y = is_good_lem (state_in s l p) g in
      rw y.1 (unnamed q l.word p (found s l) a b (state_run (in_section s l) refl y.0 y.1))
