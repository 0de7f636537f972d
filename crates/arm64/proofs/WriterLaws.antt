-- How long what the writer stores is.
use mathlib.Core.Path.{◌≡◌, refl, ap}
use mathlib.Core.List.{List, [], ◌∷◌}
use Prim.Native.Nat.{ℕ, suc, ◌+◌}
use lib.ListN.{length}
use Rattle.format.specs.Leb.{little}
use Rattle.arm64.specs.Lists.{Function}
use Rattle.arm64.specs.Writer.{row_bytes, markers_from, info_of}

pub row_length : (f : Function) → length (row_bytes f) ≡ 8
unfolding row_bytes little
row_length f = refl

pub markers_length : (at : ℕ) (fs : List Function) → length (markers_from at fs) ≡ length fs
unfolding markers_from
markers_length at [] = refl
markers_length at (f ∷ fs) = ap suc (markers_length (at + length (info_of f)) fs)
