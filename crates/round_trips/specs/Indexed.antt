-- A record read by the index of its section.
use Rattle.std.specs.Prelude.{ℕ, List, Err, false}
use Rattle.format.specs.Prelude.{Result, good, bad}
use Rattle.format.specs.Answers.{marked_numbers}

-- what is read where the section is indexed; else the question by which it is not, in the form of a reading
unfoldable pub where_indexed : Result (List ℕ) → (reading : List ℕ) → List ℕ
where_indexed (good ns) reading = reading
where_indexed (bad n) reading = marked_numbers (Err n) false
