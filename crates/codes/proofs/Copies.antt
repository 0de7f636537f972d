-- A list stored into a buffer, by the buffer's parts.
use mathlib.Core.Path.{◌≡◌, sym}
use Prim.Native.Nat.{ℕ, ◌+◌, ◌≤◌}
use mathlib.Core.List.{List}
use lib.ListN.{length, take}
use borrow.Rule.Slice.PartMut.{put_mid}
use lib.Seq.{length-take-le}
use Rattle.format.proofs.Wrote.{Wrote}
use Rattle.format.proofs.Copied as part

-- the first n of bs, copied over the n elements from p on
pub copied : {xs : List ℕ} {p n k m : ℕ} (bs : List ℕ) {ys : List ℕ} → k ≡ n → m ≡ n → n ≤ length bs → p + n ≤ length xs → ys ≡ take m bs → Wrote xs (put_mid p k xs ys) p (p + n) (take n bs)
copied {n} bs ek em w h e = part.copied (rw em at e) (sym (length-take-le n bs w)) ek h
