-- A row's kind, by the arm of a match that it came to.
use mathlib.Core.Path.{◌≡◌, refl}
use Prim.Native.Nat.{ℕ, ◌≤◌}
use native.Mathlib.Omega.{arith}
use mathlib.Core.Bool.{not}
use mathlib.Core.List.{List, [], ◌∷◌}
use lib.Dec.{T}
use denote.Enum.Declared.{tag_of}
use mir.Val.{has_key}
use types.Run.{OneOf, miss}
use Rattle.format.specs.contracts.Row.{the_type}
use Rattle.format.specs.declared.Row.{Row}
use Rattle.format.specs.declared.Row.TheVariants.{DefCfa, DefCfaOffset, DefCfaRegister, Offset, Restore, Undefined, RememberState, RestoreState, NegateRaState, SameValue, InRegister}
use Rattle.format.specs.Rows.{kind_of}

tag_kind : (r : Row) → tag_of the_type r ≡ kind_of r
unfolding kind_of
tag_kind (DefCfa reg z) = refl
tag_kind (DefCfaOffset z) = refl
tag_kind (DefCfaRegister reg) = refl
tag_kind (Offset reg z) = refl
tag_kind (Restore reg) = refl
tag_kind (Undefined reg) = refl
tag_kind RememberState = refl
tag_kind RestoreState = refl
tag_kind NegateRaState = refl
tag_kind (SameValue reg) = refl
tag_kind (InRegister reg other) = refl

-- a row of other kinds
pub other_kind : (ks : List ℕ) (k : ℕ) (r : Row) → T (not (has_key ks k)) → OneOf ks (tag_of the_type r) → kind_of r ≡ k → ⊥
other_kind ks k r t h e = miss ks k t (rw (tag_kind r, e) at h)

-- from Restore on
pub high_kind : (r : Row) → OneOf (4 ∷ 5 ∷ 6 ∷ 7 ∷ 8 ∷ 9 ∷ 10 ∷ []) (tag_of the_type r) → 4 ≤ kind_of r
high_kind r h =
    let other : (k : ℕ) → T (not (has_key (4 ∷ 5 ∷ 6 ∷ 7 ∷ 8 ∷ 9 ∷ 10 ∷ []) k)) → kind_of r ≡ k → ⊥ = λ k t. other_kind (4 ∷ 5 ∷ 6 ∷ 7 ∷ 8 ∷ 9 ∷ 10 ∷ []) k r t h in
    omega (arith, other 0 tt, other 1 tt, other 2 tt, other 3 tt)
