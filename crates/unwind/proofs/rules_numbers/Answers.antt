-- `unwind::rules_numbers` meets its contract.
use mathlib.Core.Path.{refl, sym, ◌∙◌}
use Rattle.format.specs.Answers.{reading_numbers, mark_of, marked_numbers}
use Rattle.format.proofs.Bits.{flag_number}
use Rattle.unwind.proofs.rules_numbers.Goals as goal

pub returns : goal.returns
unfolding reading_numbers mark_of marked_numbers
returns c =
    rw (sym c.from-a.ensures, sym c.from-b.ensures, sym (c.from.ensures ∙ flag_number _), sym (c.from-2.ensures ∙ flag_number _)) refl
