-- Why rows must not go back: the row check says yes of a function whose run and whose rules are two answers.
use mathlib.Core.Path.{◌≡◌, refl}
use Prim.Native.Nat.{ℕ}
use mathlib.Core.Bool.{true, false}
use mathlib.Core.Option.{none}
use mathlib.Core.List.{[], ◌∷◌}
use lib.Dec.{T}
use Rattle.format.specs.Prelude.{pick, onward, all}
use Rattle.format.specs.declared.Machine.{Machine}
use Rattle.format.specs.declared.Row.TheVariants.{NegateRaState}
use Rattle.format.specs.declared.CfaRule.TheVariants.{Unset}
use Rattle.format.specs.declared.Rule.TheVariants as rule
use Rattle.std.specs.Prelude.{Ok}
use Rattle.format.specs.Lists.{Function}
use Rattle.format.specs.Headers.{leads, ahead, others, leading}
use Rattle.format.specs.RowCheck.{in_order, rows_of, row_check}
use Rattle.format.specs.Rules.{blank, negated, apply, apply_rows, up_to, entry_state, rules_at, rules_for, seen, answer}
use Rattle.format.proofs.RowsRun.{act_all, while, run_rows}

-- signing flips at 1, and then at 0
abbrev pub flips : Function
flips =
    record { symbol = 0; size = 2; rows = (1, NegateRaState) ∷ (0, NegateRaState) ∷ []; landings = []; simple = true; signal = false; named = none; relaxed = none }

pub checked : T (row_check true flips.rows)
unfolding row_check all ahead leads in_order rows_of pick
checked = tt

-- the run stops at the first row, which is past 0
pub goes_back : (m : Machine) (q : ℕ) → answer q (run_rows m flips 0) ≡ Ok (record { cfa = Unset; rule = rule.Unstated; signing = false })
unfolding run_rows answer seen rules_for onward act_all leading others ahead leads blank while pick
goes_back m q = refl

-- the second row has an offset of at most 0
pub goes_back_rules : (m : Machine) (q : ℕ) → seen q (rules_at m flips 0) ≡ Ok (record { cfa = Unset; rule = rule.Unstated; signing = true })
unfolding seen rules_for negated rules_at entry_state apply_rows apply blank leading others ahead leads up_to pick
goes_back_rules m q = refl
