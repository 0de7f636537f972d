-- What the exports answer, as numbers.
use Rattle.std.specs.Prelude.{◌≡◌, ℕ, List, [], ◌∷◌}
use Rattle.format.specs.Questions.{Answer}
use Rattle.format.specs.Answers.{outcome_of, outcome_numbers, afterwards, relocation_numbers}
use Rattle.unwind.specs.declared.Numbers.{Numbers}
use Rattle.unwind.specs.declared.Written.{Written}

-- the numbers of a reading, in the order of include/dekvoz.h
abbrev pub read_numbers : Numbers → List ℕ
read_numbers r = r.number ∷ r.frame ∷ r.frame_register ∷ r.frame_offset ∷ r.rule ∷ r.rule_value ∷ r.signing ∷ r.shortest ∷ []

-- the numbers of an outcome, in the order of include/dekvoz.h
abbrev pub written_numbers : Written → List ℕ
written_numbers r = r.number ∷ r.position ∷ r.places ∷ r.bytes ∷ r.relocations ∷ r.sites ∷ []

-- what an exported writer does: as a writer, its outcome as numbers
pub record Exports (a : Answer) (o : Written) (places places' bytes bytes' relocations relocations' sites sites' : List ℕ) : Type 0 where
  pub numbers : written_numbers o ≡ outcome_numbers (outcome_of a)
  pub placed : places' ≡ afterwards (λ w. w.places) a places
  pub stored : bytes' ≡ afterwards (λ w. w.bytes) a bytes
  pub related : relocations' ≡ afterwards relocation_numbers a relocations
  pub sited : sites' ≡ afterwards (λ w. w.sites) a sites
