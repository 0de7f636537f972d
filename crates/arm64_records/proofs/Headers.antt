-- The header of a record: the words of epilogues behind it.
use mathlib.Core.Path.{◌≡◌}
use Prim.Native.Nat.{ℕ}
use Rattle.arm64.specs.declared.Epilogues.TheVariants.{Scoped}
use Rattle.arm64.specs.declared.Header.{Header}
use Rattle.arm64.specs.Records.{scopes_in}

module _ (h : Header) where
  pub scopes_all : {count : ℕ} → h.epilogues ≡ Scoped count → scopes_in h ≡ count
  unfolding scopes_in
  scopes_all e = rw e
