-- `unwind::numbers_of` meets its contract.
use mathlib.Core.Path.{refl}
use Rattle.format.specs.Answers.{reading_numbers, mark_of, marked_numbers}
use Rattle.unwind.proofs.numbers_of.Goals as goal

pub returns-in-Ok : goal.returns-in-Ok
returns-in-Ok c = rw c.in-Ok.is c.rules_numbers.ensures

pub returns-in-Err : goal.returns-in-Err
unfolding reading_numbers mark_of marked_numbers
returns-in-Err c = rw c.in-Err.is refl
