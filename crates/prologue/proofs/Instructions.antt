-- Rows grouped by instruction: what the first group is, and how the groups behind it are read.
use mathlib.Core.Path.{◌≡◌, refl, ap, ◌∙◌}
use mathlib.Core.Logic.{◌≢◌}
use mathlib.Core.List.{List, [], ◌∷◌}
use lib.Dec.{eqb}
use mir.Facts.{eqb_yes, eqb_no}
use Rattle.format.specs.declared.Machine.{Machine}
use Rattle.format.specs.declared.Row.{Row}
use Rattle.format.specs.Rows.{RowAt}
use Rattle.format.specs.Prelude.{bad, onward}
use Rattle.format.specs.Writer.{is_empty}
use Rattle.format.specs.X64.{Group, join_group, groups, Prefix, lone_row, push_rows, read_group, read_groups}
use Rattle.format.proofs.Choice.{if-eq, if-ne, tested}

-- a group of a row and others
abbrev headed : RowAt → List Row → Group
headed x rs = record { at = x.0; rows = x.1 ∷ rs }

module _ (x y : RowAt) (rs : List Row) (gs : List Group) where
  joining : x.0 ≡ y.0 → join_group x (headed y rs ∷ gs) ≡ headed x (y.1 ∷ rs) ∷ gs
  unfolding join_group
  joining e = if-eq x.0 y.0 _ _ e

  parting : x.0 ≢ y.0 → join_group x (headed y rs ∷ gs) ≡ headed x [] ∷ headed y rs ∷ gs
  unfolding join_group
  parting n = if-ne x.0 y.0 _ _ n

-- groups whose first is of a row and others
record Opens (x : RowAt) (gs : List Group) : Type 0 where
  rows : List Row
  rest : List Group
  are : gs ≡ headed x rows ∷ rest

opens : (x : RowAt) (gs : List Group) → Opens x (join_group x gs)
unfolding join_group
opens x [] = record { rows = []; rest = []; are = refl }
opens x (g ∷ gs) =
    tested (eqb x.0 g.at) (λ t. record { rows = g.rows; rest = gs; are = if-eq x.0 g.at _ _ (eqb_yes t) })
    (λ t. record { rows = []; rest = g ∷ gs; are = if-ne x.0 g.at _ _ (eqb_no t) })

-- rows of which the first is not of x's instruction
abbrev pub Parted : RowAt → List RowAt → Type 0
Parted x [] = Unit {0}
Parted x (y ∷ ys) = x.0 ≢ y.0

alone : (x : RowAt) (xs : List RowAt) → Parted x xs → groups (x ∷ xs) ≡ headed x [] ∷ groups xs
unfolding groups join_group
alone x [] p = refl
alone x (y ∷ ys) p = let o = opens y (groups ys) in rw o.are (parting x y o.rows o.rest p)

both : (x y : RowAt) (xs : List RowAt) → x.0 ≡ y.0 → Parted y xs → groups (x ∷ y ∷ xs) ≡ headed x (y.1 ∷ []) ∷ groups xs
unfolding groups
both x y xs e p = ap (join_group x) (alone y xs p) ∙ joining x y [] (groups xs) e

empty : (xs : List RowAt) → is_empty (groups xs) ≡ is_empty xs
unfolding groups is_empty
empty [] = refl
empty (x ∷ xs) = rw (opens x (groups xs)).are

-- ---- how they are read

module _ (m : Machine) (s : Prefix) where
  pub read_lone : (x : RowAt) (xs : List RowAt) → Parted x xs
      → read_groups m (groups (x ∷ xs)) s ≡ onward (lone_row m (is_empty xs) x.0 x.1 s) (read_groups m (groups xs))
  unfolding read_groups read_group
  read_lone x xs p = rw (alone x xs p, empty xs)

  pub read_push : (x y : RowAt) (xs : List RowAt) → x.0 ≡ y.0 → Parted y xs
      → read_groups m (groups (x ∷ y ∷ xs)) s ≡ onward (push_rows m x.0 x.1 y.1 s) (read_groups m (groups xs))
  unfolding read_groups read_group
  read_push x y xs e p = rw (both x y xs e p)

  pub read_third : (x y z : RowAt) (zs : List RowAt) → x.0 ≡ y.0 → y.0 ≡ z.0 → read_groups m (groups (x ∷ y ∷ z ∷ zs)) s ≡ bad 33
  unfolding read_groups read_group groups onward
  read_third x y z zs e f =
      let o = opens z (groups zs) in
      rw (o.are, joining y z o.rows o.rest f, joining x y (z.1 ∷ o.rows) o.rest e)
