-- The lists that are lent for what is read, and what a writer of epilogues does with them.
use Rattle.std.specs.Prelude.{◌≡◌, ℕ, List}
use Rattle.arm64.specs.declared.Code.{Code}
use Rattle.arm64.specs.Lists.{Epilogue}
use Rattle.arm64_records.specs.declared.Output.{Output}
use Rattle.arm64_records.specs.Parts.{Listed, Placed}

-- the same lists are lent, whatever they hold
pub record SameLists (old new : Output) : Type 0 where
  pub epilogues : new.epilogues.ghost_name ≡ old.epilogues.ghost_name
  pub codes : new.codes.ghost_name ≡ old.codes.ghost_name

abbrev pub PlacedIn : (old new : Output) → (k at r start : ℕ) → (run : List Code) → Type 0
PlacedIn old new k at r start run =
    Placed old.epilogues.now new.epilogues.now old.codes.now new.codes.now k at r start run × SameLists old new

abbrev pub ListedIn : (old new : Output) → (n : ℕ) → (all : List Epilogue) → Type 0
ListedIn old new n all = Listed old.epilogues.now new.epilogues.now old.codes.now new.codes.now n all × SameLists old new
