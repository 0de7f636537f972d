-- The same lists are lent: where nothing happens, and by two functions, one after the other.
use mathlib.Core.Path.{refl, ◌∙◌}
use Rattle.arm64_records.specs.declared.Output.{Output}
use Rattle.arm64_records.specs.Lent.{SameLists}

pub same : {to : Output} → SameLists to to
same = record { epilogues = refl; codes = refl }

pub then : {a b c : Output} → SameLists a b → SameLists b c → SameLists a c
then f g = record { epilogues = g.epilogues ∙ f.epilogues; codes = g.codes ∙ f.codes }
