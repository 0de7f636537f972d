-- The same lists are lent: where nothing happens, and by two functions, one after the other.
use mathlib.Core.Path.{refl, ◌∙◌}
use Rattle.lists.specs.declared.output.Output.{Output}
use Rattle.lists.specs.Lent.{SameLists}

pub same : {to : Output} → SameLists to to
same = record { places = refl; bytes = refl; relocations = refl; sites = refl }

pub then : {a b c : Output} → SameLists a b → SameLists b c → SameLists a c
then f g = record { places = g.places ∙ f.places; bytes = g.bytes ∙ f.bytes; relocations = g.relocations ∙ f.relocations; sites = g.sites ∙ f.sites }
