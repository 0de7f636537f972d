-- What a section takes of a record is what it takes of the function that the record means.
use mathlib.Core.Path.{◌≡◌, refl}
use Prim.Native.Nat.{ℕ}
use mathlib.Core.List.{List}
use Rattle.format.specs.Prelude.{pick, each}
use Rattle.format.specs.declared.Section.{Section}
use Rattle.format.specs.declared.Section.TheVariants.{Elf, Debug}
use Rattle.format.specs.Writer.{taken, without_exceptions}
use Rattle.lists.specs.declared.Extent.{Extent}
use Rattle.lists.specs.Extents.{meant_personality, meant}
use Rattle.header_keys.specs.Functions.{without, taken_in}

pub taken_means : (s : Section) (e : Extent) (rows landings pairs : List ℕ)
    → meant (taken_in s e) rows landings pairs ≡ taken s (meant e rows landings pairs)
unfolding taken_in without meant_personality meant taken without_exceptions pick each
taken_means Elf e rows landings pairs = refl
taken_means Debug e rows landings pairs = refl
