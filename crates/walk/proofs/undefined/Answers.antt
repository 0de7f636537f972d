-- `walk::undefined` meets its contract.
use mathlib.Core.Path.{◌≡◌, refl}
use mathlib.Core.Bool.{false}
use Rattle.format.specs.declared.Rule.{Rule}
use Rattle.format.specs.declared.Rule.TheVariants as rule
use Rattle.walk.specs.Walk.{undefined}
use Rattle.walk.proofs.undefined.Goals as goal

other : (r : Rule) → (r ≡ rule.Undefined → ⊥) → false ≡ undefined r
unfolding undefined
other rule.Unstated n = refl
other rule.Undefined n = absurd (n refl)
other (rule.Saved z) n = refl
other rule.SameValue n = refl
other (rule.InRegister reg) n = refl

pub returns-in-Undefined : goal.returns-in-Undefined
unfolding undefined
returns-in-Undefined c = rw c.in-Undefined.is

pub returns-in_default : goal.returns-in_default
returns-in_default c = other c.args.rule c.in_default.not-Undefined
