-- Rules that say something.
use Rattle.std.specs.Prelude.{Bool, true, false}
use Rattle.cfi_rules.specs.declared.rule.Rule.{Rule}
use Rattle.cfi_rules.specs.declared.rule.Rule.TheVariants.{Unstated, Undefined, SameValue, Offset, ValOffset, Register, Expression, ValExpression}

abbrev pub is_stated : Rule → Bool
is_stated Unstated = false
is_stated Undefined = true
is_stated SameValue = true
is_stated (Offset z) = true
is_stated (ValOffset z) = true
is_stated (Register reg) = true
is_stated (Expression b) = true
is_stated (ValExpression b) = true
