-- The place of a record's table of call sites, by what the section's record and the relocations say.
use mathlib.Core.Path.{◌≡◌, refl}
use Prim.Native.Nat.{ℕ, ◌+◌, ◌-◌, ◌^◌}
use native.Mathlib.Omega.{arith}
use mathlib.Core.Bool.{false}
use mathlib.Core.Option.{Option, none, some}
use mathlib.Core.List.{List, []}
use lib.ListN.{get_elem?}
use Rattle.std.specs.Prelude as code
use Rattle.format.specs.Prelude.{after}
use Rattle.format.proofs.Asked.{option_of}
use Rattle.format.specs.Lists.{Relocation}
use Rattle.format.specs.Questions.{is_some}
use Rattle.format.specs.Reader.{Entry, entries, records, first_addend}
use Rattle.reader.specs.Spans.{listed, Stands}
use Rattle.sites_back.specs.Back.{pointer_field, table_place, place_in}

-- the place, or one outside all bytes where there is none
pub place_or : (o : Option ℕ) → code.unwrap_or (option_of o) (2 ^ 64 - 1) ≡ place_in o
unfolding place_in
place_or none = refl
place_or (some n) = refl

none_listed : (o : Option (List Entry)) → is_some o ≡ false → listed o ≡ []
unfolding is_some listed
none_listed none e = refl
none_listed (some es) e = let z : ◌≡◌ {A = ℕ} 0 1 = cc in absurd (omega arith)

module _ (s : List ℕ) (rs : List Relocation) (k : ℕ) where
  pub no_record : get_elem? (records false (listed (entries s))) k ≡ none → code.None ≡ option_of (table_place s rs k)
  unfolding table_place after
  no_record e = rw e

  pub untiled : is_some (entries s) ≡ false → code.None ≡ option_of (table_place s rs k)
  unfolding records
  untiled e = no_record (rw (none_listed (entries s) e))

  pub pointer : {at end : ℕ} → Stands s at end (get_elem? (records false (listed (entries s))) k)
      → {r : code.Option ℕ} → r ≡ option_of (first_addend (at + pointer_field) rs) → r ≡ option_of (table_place s rs k)
  unfolding table_place after
  pointer t e = rw t.found e
