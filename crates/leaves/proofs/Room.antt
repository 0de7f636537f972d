-- The room that the program lends is enough, and what was written lies within it.
use mathlib.Core.Path.{◌≡◌}
use mathlib.Core.List.{List}
use Prim.Native.Nat.{ℕ, ◌≤◌}
use native.Mathlib.Omega.{arith}
use lib.ListN.{length, take, length-take}
use lib.IntN.{ℤ, pos, negsuc}
use mir.Syntax.{w64}
use mir.Val.{SFits, of_z, to_z}
use mir.Facts.{to_z-of_z}
use Rattle.format.proofs.Wrote.{Wrote}
use Rattle.format.specs.Leb.{sleb}
use Rattle.format.proofs.PutLaws.{kept}
use Rattle.format.proofs.LebBack.{sleb_short_pos, sleb_short_neg}

room : (v : ℤ) → SFits w64 v → length (sleb v) ≤ 10
room (pos n) f = sleb_short_pos 9 n (omega (arith, f.sfits))
room (negsuc n) f = sleb_short_neg 9 n (omega (arith, f.sfits))

pub sleb_room : (v : ℤ) → SFits w64 v → length (sleb (to_z w64 (of_z w64 v))) ≤ 10
sleb_room v f = rw (to_z-of_z f) (room v f)

-- what a writer stored at the start of xs is the first n bytes
pub counted : {xs ys : List ℕ} {n : ℕ} {bs : List ℕ} → Wrote xs ys 0 n bs → length bs ≤ length xs → n ≡ length (take n ys)
counted {xs} {ys} {n} {bs} w h = simp length-take (omega (arith, kept w, w.past))
