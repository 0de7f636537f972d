-- Applying changes only the fields of the relocations: every byte outside them is as it was.
use Rattle.std.proofs.Common.{◌≡◌, ℕ, ◌+◌, ◌<◌, ◌≤◌, T, ◌⊎◌, List, [], ◌∷◌, get_or, ℤ, refl, ◌∙◌, subst, ⊎_elim, arith}
use mathlib.Core.Option.{Option, none, some}
use Rattle.format.specs.Put.{put}
use Rattle.format.specs.Leb.{little}
use Rattle.format.specs.Lists.{Relocation}
use Rattle.format.proofs.Each.{Each}
use Rattle.format.proofs.LebBack.{little-length}
use Rattle.format.proofs.PutLaws.{put_before}
use Rattle.apply.specs.declared.Width.{Width}
use Rattle.apply.specs.declared.Kind.{Kind}
use Rattle.apply.specs.declared.Kind.TheVariants.{Data, Address, SumPlus, SumMinus, Image, Set, Sub, Unknown}
use Rattle.apply.specs.Kinds.{kind_of, bytes_of, size_ok}
use Rattle.apply.specs.Fields.{in_field, set_in, sub_in, whole_in}
use Rattle.apply.specs.Values.{Layout, sum_of, value_as, store_as, store_of}
use Rattle.apply.specs.Apply.{front, stores}
use Rattle.apply.proofs.Tests.{step_size, step_size_2}
use Rattle.apply.proofs.Distances.{put-behind}

-- q lies in none of the n bytes from p on
abbrev pub Off : (q p n : ℕ) → Type 0
Off q p n = (q < p) ⊎ (p + n ≤ q)

put_off : (n x : ℕ) (bs : List ℕ) (p q : ℕ) → Off q p n → get_or (put bs p (little n x)) q 0 ≡ get_or bs q 0
put_off n x bs p q o =
    let e = little-length n x in
    ⊎_elim (λ h. put_before bs p (little n x) q h) (λ h. put-behind bs p q (little n x) (omega (arith, e, h))) o

in_off : (w : Width) (bs : List ℕ) (p v q : ℕ) → Off q p (bytes_of w) → get_or (in_field w bs p v) q 0 ≡ get_or bs q 0
unfolding in_field
in_off w bs p v q o = put_off (bytes_of w) _ bs p q o

set_off : (w : Width) (bs : List ℕ) (p q : ℕ) (z : Option ℤ) → Off q p (bytes_of w) → get_or (set_in w bs p z) q 0 ≡ get_or bs q 0
unfolding set_in
set_off w bs p q none o = refl
set_off w bs p q (some z) o = in_off w bs p _ q o

sub_off : (w : Width) (bs : List ℕ) (p q : ℕ) (z : Option ℤ) → Off q p (bytes_of w) → get_or (sub_in w bs p z) q 0 ≡ get_or bs q 0
unfolding sub_in
sub_off w bs p q none o = refl
sub_off w bs p q (some z) o = in_off w bs p _ q o

whole_off : (n : ℕ) (bs : List ℕ) (p q : ℕ) (v : Option ℕ) → Off q p n → get_or (whole_in n bs p v) q 0 ≡ get_or bs q 0
unfolding whole_in
whole_off n bs p q none o = refl
whole_off n bs p q (some v) o = put_off n v bs p q o

-- a relocation of a size of its kind, whose field q lies outside of
pub record Misses (q : ℕ) (r : Relocation) : Type 0 where
  pub sized : T (size_ok (kind_of r.kind) r.bytes)
  pub off : Off q r.place r.bytes

as_off : (k : Kind) (l : Layout) (bs : List ℕ) (r : Relocation) (behind : Option Relocation) (q : ℕ) → T (size_ok k r.bytes)
    → Off q r.place r.bytes → get_or (store_as k l bs r behind) q 0 ≡ get_or bs q 0
unfolding store_as
as_off Data l bs r behind q t o = whole_off r.bytes bs r.place q (value_as Data l r behind) o
as_off Address l bs r behind q t o = whole_off r.bytes bs r.place q (value_as Address l r behind) o
as_off SumPlus l bs r behind q t o = whole_off r.bytes bs r.place q (value_as SumPlus l r behind) o
as_off SumMinus l bs r behind q t o = refl
as_off Image l bs r behind q t o = whole_off r.bytes bs r.place q (value_as Image l r behind) o
as_off (Set w) l bs r behind q t o =
    set_off w bs r.place q (sum_of l.symbols r) (subst (Off q r.place) (step_size w r.bytes t) o)
as_off (Sub w) l bs r behind q t o =
    sub_off w bs r.place q (sum_of l.symbols r) (subst (Off q r.place) (step_size_2 w r.bytes t) o)
as_off Unknown l bs r behind q t o = refl

pub store_off : (l : Layout) (bs : List ℕ) (r : Relocation) (behind : Option Relocation) (q : ℕ) → Misses q r → get_or (store_of l bs r behind) q 0 ≡ get_or bs q 0
unfolding store_of
store_off l bs r behind q m = as_off (kind_of r.kind) l bs r behind q m.sized m.off

pub unchanged : (l : Layout) (bs : List ℕ) (rs : List Relocation) (q : ℕ) → Each (Misses q) rs → get_or (stores l bs rs) q 0 ≡ get_or bs q 0
unfolding stores
unchanged l bs [] q m = refl
unchanged l bs (r ∷ rs) q m = unchanged l (store_of l bs r (front rs)) rs q m.1 ∙ store_off l bs r (front rs) q m.0
