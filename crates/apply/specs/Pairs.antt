-- What stands in the field of a Set and Sub pair once a section is put in place (RISC-V psABI,
-- "Relocations"): the distance of the two labels, however either address and what stands there between wrap,
-- and the bits above the field as they were.
use Rattle.std.specs.Prelude.{◌≡◌, ℕ, ◌+◌, ◌/◌, ◌^◌, ◌≤◌, ◌⊎◌, List, [], ◌∷◌, ◌++◌}
use Rattle.std.proofs.Math.Option.{some}
use Rattle.format.specs.Lists.{Relocation}
use Rattle.apply.specs.declared.Width.{Width}
use Rattle.apply.specs.declared.Kind.TheVariants.{Set}
use Rattle.apply.specs.Kinds.{kind_of, bits_of, bytes_of}
use Rattle.apply.specs.Fields.{number_at, field_at}
use Rattle.apply.specs.Values.{distance_of}

-- the fields of two relocations have no byte in common
abbrev pub Apart : Relocation → Relocation → Type 0
Apart r s = (r.place + r.bytes ≤ s.place) ⊎ (s.place + s.bytes ≤ r.place)

abbrev pub AllApart : Relocation → List Relocation → Type 0
AllApart s [] = Unit {0}
AllApart s (r ∷ rs) = Apart s r × AllApart s rs

pub record HoldsDistance (symbols : List (ℕ × ℕ)) (w : Width) (s t : Relocation) (old new : List ℕ) : Type 0 where
  pub distance : distance_of w symbols s (some t) ≡ some (field_at w new s.place)
  pub above : number_at new s.place (bytes_of w) / 2 ^ bits_of w ≡ number_at old s.place (bytes_of w) / 2 ^ bits_of w

-- of every pair whose field no other relocation shares
abbrev pub PairsHold : (symbols : List (ℕ × ℕ)) → List Relocation → (old new : List ℕ) → Type 0
PairsHold symbols rs old new =
    (before : List Relocation) (s t : Relocation) (behind : List Relocation) (w : Width) → rs ≡ before ++ (s ∷ t ∷ behind) → kind_of s.kind ≡ Set w
    → AllApart s before → AllApart s behind → HoldsDistance symbols w s t old new
