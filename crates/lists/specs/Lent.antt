-- The lists that are lent for what is written, and what a writer does with them.
use Rattle.std.specs.Prelude.{◌≡◌, length}
use Rattle.format.specs.declared.Counts.{Counts}
use Rattle.format.specs.Coded.{Outcome}
use Rattle.format.specs.Questions.{Room, room_in, Answer}
use Rattle.format.specs.Answers.{Writes}
use Rattle.lists.specs.declared.output.Output.{Output}

-- the same lists are lent, whatever they hold
pub record SameLists (old new : Output) : Type 0 where
  pub places : new.places.ghost_name ≡ old.places.ghost_name
  pub bytes : new.bytes.ghost_name ≡ old.bytes.ghost_name
  pub relocations : new.relocations.ghost_name ≡ old.relocations.ghost_name
  pub sites : new.sites.ghost_name ≡ old.sites.ghost_name

abbrev pub room_of : Output → Room
room_of to = room_in to.places.now to.bytes.now to.relocations.now to.sites.now

-- how many elements they have
abbrev pub lent_in : Output → Counts
lent_in to =
    record { places = length to.places.now; bytes = length to.bytes.now; relocations = length to.relocations.now; sites = length to.sites.now }

abbrev pub WritesTo : Answer → Outcome → (old new : Output) → Type 0
WritesTo a o old new =
    Writes a o old.places.now new.places.now old.bytes.now new.bytes.now old.relocations.now new.relocations.now old.sites.now new.sites.now
    × SameLists old new
