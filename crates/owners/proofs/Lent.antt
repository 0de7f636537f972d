-- The lists that owners are found in, lent again.
use mathlib.Core.Path.{refl, ◌∙◌}
use Rattle.owners.specs.declared.Chains.{Chains}
use Rattle.owners.specs.Lent.{SameChains}

pub same : {c : Chains} → SameChains c c
same = record { heads = refl; links = refl; owners = refl; links_long = refl; owners_long = refl }

pub followed : {a b c : Chains} → SameChains a b → SameChains b c → SameChains a c
followed s t = record {
  heads = t.heads ∙ s.heads;
  links = t.links ∙ s.links;
  owners = t.owners ∙ s.owners;
  links_long = t.links_long ∙ s.links_long;
  owners_long = t.owners_long ∙ s.owners_long;
}
