-- The lists that owners are found in, as they are lent.
use Rattle.std.specs.Prelude.{◌≡◌, ℕ, length}
use Rattle.header_keys.specs.Inputs.{Inputs}
use Rattle.owners.specs.declared.Chains.{Chains}
use Rattle.owners.specs.Chains.{Owned, OwnersFound, Enough, Unused}

-- the same lists are lent, as long as they were; `heads` is as long as OwnersFound says
pub record SameChains (old new : Chains) : Type 0 where
  pub heads : new.heads.ghost_name ≡ old.heads.ghost_name
  pub links : new.links.ghost_name ≡ old.links.ghost_name
  pub owners : new.owners.ghost_name ≡ old.owners.ghost_name
  pub links_long : length new.links.now ≡ length old.links.now
  pub owners_long : length new.owners.now ≡ length old.owners.now

-- they are long enough for n functions, and nothing is chained in them yet
abbrev pub LongFor : (n : ℕ) → Chains → Type 0
LongFor n c = Enough n (length c.heads.now) c.links.now c.owners.now

abbrev pub EmptyFor : (n : ℕ) → Chains → Type 0
EmptyFor n c = Unused n c.heads.now c.links.now c.owners.now

-- they have the owners of the first k functions
abbrev pub FoundIn : Inputs → (size k : ℕ) → Chains → Type 0
FoundIn x size k c = OwnersFound x size k c.heads.now c.links.now c.owners.now

abbrev pub OwnedIn : Inputs → (n : ℕ) → Chains → Type 0
OwnedIn x n c = Owned x n c.owners.now
