-- A list copied to the front of a buffer.
use Rattle.std.proofs.Common.{◌≡◌, ℕ, zero, suc, ◌+◌, ◌<◌, ◌≤◌, List, [], ◌∷◌, length, get_or, take, drop, set, sym, refl, ◌∙◌, add-one, arith, drop-cons}
use Rattle.std.proofs.lemmas.List.{length-take-le, take_all}
use Rattle.format.specs.Put.{put}
use Rattle.format.proofs.PutLaws.{length-put, front_is}
use Rattle.format.proofs.Storing.{Storing, start, turn, ended}

none_left : (xs : List ℕ) (i : ℕ) → length xs ≤ i → drop i xs ≡ []
none_left [] zero h = refl
none_left [] (suc i) h = refl
none_left (x ∷ xs) zero h = absurd (omega arith)
none_left (x ∷ xs) (suc i) h = none_left xs i (omega arith)

pub copy_start : (out bytes : List ℕ) → length bytes ≤ length out → Storing out out 0 0 bytes (drop 0 bytes)
copy_start out bytes h = start (omega arith)

pub copy_turn : {out₀ out bytes : List ℕ} {i : ℕ} → Storing out₀ out 0 i bytes (drop i bytes) → i < length bytes
    → Storing out₀ (set out i (get_or bytes i 0)) 0 (i + 1) bytes (drop (i + 1) bytes)
copy_turn {out₀} {out} {bytes} {i} s h =
    let e : drop i bytes ≡ get_or bytes i 0 ∷ drop (i + 1) bytes = rw add-one (drop-cons bytes i 0 h) in
    turn (rw e at s)

pub copy_ended : {out₀ out bytes : List ℕ} {i : ℕ} → Storing out₀ out 0 i bytes (drop i bytes) → length bytes ≤ i
    → out ≡ put out₀ 0 bytes
copy_ended {out₀} {out} {bytes} {i} s h = let e = none_left bytes i h in (ended (rw e at s)).stored

-- a front that is copied over whole holds the copy
pub whole_front : (out bytes : List ℕ) → length bytes ≤ length out → put (take (length bytes) out) 0 bytes ≡ bytes
whole_front out bytes h =
    let xs : List ℕ = take (length bytes) out in
    let n : length xs ≡ length bytes = length-take-le (length bytes) out h in
    sym (take_all (length bytes) (put xs 0 bytes) (omega (arith, n, length-put xs 0 bytes)))
    ∙ front_is xs bytes (omega (arith, n))
