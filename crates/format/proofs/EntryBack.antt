-- Entries there and back: a length and as many bytes, and the zeros at their end.
use mathlib.Core.Path.{◌≡◌, refl}
use Prim.Native.Nat.{ℕ, ◌+◌, ◌-◌, ◌%◌, ◌^◌, ◌≤◌, ◌<◌}
use native.Mathlib.Omega.{arith}
use native.Mathlib.Nat.{mod-lt}
use mathlib.Core.Bool.{◌&&◌}
use mathlib.Core.Option.{some}
use mathlib.Core.List.{List, ◌++◌, append_assoc}
use lib.ListN.{length, replicate, length-append, length-replicate}
use lib.Seq.{take_at, drop_at}
use lib.Dec.{T, leb}
use mir.Facts.{yes_and, yes_leb}
use Rattle.format.specs.Prelude.{next}
use Rattle.format.specs.Headers.{padding, padded, entry}
use Rattle.format.specs.Reader.{read_entry}
use Rattle.format.proofs.Choice.{pick_yes}
use Rattle.format.proofs.LebBack.{little_back, little-length}

pub entry_back : (body rest : List ℕ) → 4 ≤ length body → length body < 2 ^ 32 → read_entry (entry body ++ rest) ≡ some (body, rest)
unfolding read_entry entry next
entry_back body rest h l =
    rw (append_assoc, little_back 4 (length body) (body ++ rest) (omega arith))
    (let k : length body ≤ length (body ++ rest) = rw length-append (omega arith) in
    let t : T (leb 4 (length body) && leb (length body) (length (body ++ rest))) = yes_and (leb 4 (length body)) (leb (length body) (length (body ++ rest))) (yes_leb h) (yes_leb k) in
    rw (pick_yes, take_at body rest (length body) refl, drop_at body rest (length body) refl))

pub entry_length : (body : List ℕ) → length (entry body) ≡ 4 + length body
unfolding entry
entry_length body = rw (length-append, little-length)

pub padded_shape : (align at : ℕ) (body : List ℕ) → padded align at body ≡ body ++ replicate (padding align (at + 4 + length body)) 0
unfolding padded
padded_shape align at body = refl

-- with fields in front of operations the zeros join the operations
pub padded_behind : (align at : ℕ) (fields ops : List ℕ)
    → padded align at (fields ++ ops) ≡ fields ++ (ops ++ replicate (padding align (at + 4 + length (fields ++ ops))) 0)
unfolding padded
padded_behind align at fields ops = append_assoc fields ops _

pub padding_small : (align n : ℕ) → 0 < align → padding align n < align
unfolding padding
padding_small align n h = mod-lt (align - n % align) h

pub padded_length : (align at : ℕ) (body : List ℕ) → length (padded align at body) ≡ length body + padding align (at + 4 + length body)
unfolding padded
padded_length align at body = rw (length-append, length-replicate {A = ℕ} (padding align (at + 4 + length body)) 0)
