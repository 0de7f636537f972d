-- The answer of the code as C's numbers.
use Rattle.std.specs.Prelude.{Ok, Err}
use Rattle.std.specs.Prelude as code
use Rattle.format.specs.Numbers.{number_of}
use Rattle.format.specs.declared.Refusal.{Refusal}
use Rattle.section_check.specs.Check.{saying}
use Rattle.section_check.specs.declared.Checked.{Checked}

-- 0, or a question's number and the record that it is about
abbrev pub checked_of : code.Result Unit Refusal → Checked
checked_of (Ok u) = saying 0 0
checked_of (Err r) = saying (number_of r.question) r.position
