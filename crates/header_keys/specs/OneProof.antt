-- What a function's questions make sure of has one proof at most, so that a struct can hold it.
use Rattle.std.specs.Prelude.{ℕ, List, [], ◌∷◌, ℤ, pos, negsuc}
use Rattle.std.specs.Coded.{Unit-prop, le_prop}
use denote.Struct.Props as logic
use Rattle.format.specs.declared.Machine.{Machine}
use Rattle.format.specs.declared.Row.{Row}
use Rattle.format.specs.Rows.{RowAt}
use Rattle.format.proofs.Fits.{MachineFits}
use Rattle.format.proofs.RowBack.{Off32, RowFits}
use Rattle.format.proofs.WalkBack.{RowsAtOk}
use Rattle.lists.specs.declared.Extent.{Extent}
use Rattle.header_keys.specs.Functions.{RowsReady, Sound}

Off32-prop : (z : ℤ) → IsProp (Off32 z)
Off32-prop (pos n) = le_prop
Off32-prop (negsuc n) = le_prop

RowFits-prop : (w : ℕ) (r : Row) → IsProp (RowFits w r)
RowFits-prop w r = Prim.hlevel (Off32-prop, logic.props)

RowsAtOk-prop : (w at : ℕ) (xs : List RowAt) → IsProp (RowsAtOk w at xs)
RowsAtOk-prop w at [] = Unit-prop
RowsAtOk-prop w at (x ∷ xs) = Prim.hlevel (RowFits-prop, RowsAtOk-prop w x.0 xs, logic.props)

MachineFits-prop : (m : Machine) → IsProp (MachineFits m)
MachineFits-prop m = Prim.hlevel logic.props

pub RowsReady-prop : (rows : List ℕ) (at n : ℕ) → IsProp (RowsReady rows at n)
RowsReady-prop rows at n = Prim.hlevel logic.props

pub Sound-prop : (m : Machine) (e : Extent) (rows : List ℕ) → IsProp (Sound m e rows)
Sound-prop m e rows = Prim.hlevel (MachineFits-prop, RowsReady-prop, RowsAtOk-prop, logic.props)
