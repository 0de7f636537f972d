-- A row of the definitions, seen at one register: the run of that register alone.
use mathlib.Core.Path.{◌≡◌, refl}
use Prim.Native.Nat.{ℕ}
use mathlib.Core.Bool.{Bool, true, false}
use mathlib.Core.Option.{none, some}
use mathlib.Core.List.{List, [], ◌∷◌, map}
use lib.ListN.{length, length-map}
use lib.Dec.{ltb, eqb, eqb→eq}
use lib.IntN.{ℤ}
use Rattle.format.specs.Prelude.{pick, Result, good, bad}
use Rattle.format.specs.declared.Row.{Row}
use Rattle.format.specs.declared.Row.TheVariants.{DefCfa, DefCfaOffset, DefCfaRegister, Offset, Restore, Undefined, RememberState, RestoreState, NegateRaState, SameValue, InRegister}
use Rattle.format.specs.declared.CfaRule.{CfaRule}
use Rattle.format.specs.declared.CfaRule.TheVariants.{Unset, Register}
use Rattle.format.specs.declared.Rule.{Rule}
use Rattle.format.specs.Rules.{AllRules, State, with_cfa, with_rule, reoffset, reregister, restored, negated, apply, rules_for, without_cfa, without_stored, refusal, unless_refused, act}
use Rattle.format.proofs.Choice.{tested, pick_no}
use Rattle.reader.specs.OneRegister as one

-- what is said of all registers, and what is said of one
pub data SeenAs (q : ℕ) (x : Result State) (y : Result one.Run) : Type 0 where
  answered : (s : State) → x ≡ good s → y ≡ good (one.at q s) → SeenAs q x y
  refused : (n : ℕ) → x ≡ bad n → y ≡ bad n → SeenAs q x y

module _ (header : Bool) (q : ℕ) (init : ℕ → Rule) (s : State) where
  -- the CFA rule c, changed
  changed : (result : CfaRule → Result one.Run) (to : CfaRule → CfaRule) → result Unset ≡ bad 69
      → ((reg : ℕ) (z : ℤ) → result (Register reg z) ≡ good (one.at q (with_cfa (to (Register reg z)) s))) → (c : CfaRule)
      → SeenAs q (unless_refused (without_cfa c) (with_cfa (to c) s)) (result c)
  unfolding unless_refused without_cfa
  changed result to e h Unset = refused 69 refl e
  changed result to e h (Register reg z) = answered _ refl (h reg z)

  pub seen_row : (r : Row) → SeenAs q (act header init r s) (one.act q (one.initial_of header (init q)) r (one.at q s))
  unfolding act refusal unless_refused apply with_cfa with_rule reoffset reregister restored negated rules_for without_stored pick one.at one.act one.set_cfa one.set_rule one.change_offset one.change_register one.remember one.recall one.negated one.restored one.initial_of
  seen_row (DefCfa reg z) = answered _ refl refl
  seen_row (DefCfaOffset z) = changed (λ c. one.change_offset z c (one.at q s)) (reoffset z) refl (λ r y. refl) s.current.cfa
  seen_row (DefCfaRegister reg) = changed (λ c. one.change_register reg c (one.at q s)) (reregister reg) refl (λ r y. refl) s.current.cfa
  seen_row (Offset reg z) = answered _ refl refl
  seen_row (Restore reg) = by header
    where
      same : pick (eqb q reg) (init q) (s.current.rules q) ≡ pick (eqb q reg) (init reg) (s.current.rules q)
      same = tested (eqb q reg) (λ t. rw (eqb→eq q reg t)) (λ t. simp pick_no)

      by : (b : Bool)
          → SeenAs q (unless_refused (pick b (some 67) none) (with_rule reg (init reg) s)) (one.restored q reg (one.initial_of b (init q)) (one.at q s))
      by true = refused 67 refl refl
      by false = answered _ refl (rw same)
  seen_row (Undefined reg) = answered _ refl refl
  seen_row RememberState = simp length-map (by (ltb (length s.stored) 16))
    where
      by : (b : Bool)
          → SeenAs q (unless_refused (pick b none (some 68)) (apply init RememberState s)) (pick b (good (one.at q (apply init RememberState s))) (bad 68))
      by true = answered _ refl refl
      by false = refused 68 refl refl
  seen_row RestoreState = by s.stored
    where
      by : (ks : List AllRules) → SeenAs q (unless_refused (without_stored ks) (restored ks s)) (one.recall (map (rules_for q) ks) (one.at q s))
      by [] = refused 67 refl refl
      by (k ∷ ks) = answered _ refl refl
  seen_row NegateRaState = answered _ refl refl
  seen_row (SameValue reg) = answered _ refl refl
  seen_row (InRegister reg other) = answered _ refl refl
