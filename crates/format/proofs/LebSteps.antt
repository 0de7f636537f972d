-- LEB numbers byte by byte: what the last byte is, and what stands behind another.
use mathlib.Core.Path.{◌≡◌}
use Prim.Native.Nat.{ℕ, zero, suc, ◌+◌, ◌/◌, ◌%◌, ◌^◌, ◌≤◌, ◌<◌}
use native.Mathlib.Omega.{arith}
use mathlib.Core.List.{[], ◌∷◌}
use Rattle.format.specs.Leb.{uleb_f, uleb}
use Rattle.format.proofs.Choice.{if-le, if-gt, either}

-- one byte more than enough changes nothing
uleb_enough : (f n : ℕ) → n < 128 ^ suc f → uleb_f f n ≡ uleb_f (suc f) n
unfolding uleb_f
uleb_enough zero n h = let l : n < 128 = omega arith in rw (if-le (suc n) 128)
uleb_enough (suc f) n h =
    either (suc n) 128 (λ l. rw (if-le (suc n) 128) (rw (if-le (suc n) 128)))
    (λ g. rw (if-gt (suc n) 128) (rw (if-gt (suc n) 128) (rw (uleb_enough f (n / 128) (omega arith)))))

pub uleb_last : (v : ℕ) → v < 128 → uleb v ≡ v ∷ []
unfolding uleb uleb_f
uleb_last v h = rw (if-le (suc v) 128)

pub uleb_more : (v : ℕ) → 128 ≤ v → v < 2 ^ 64 → uleb v ≡ (v % 128 + 128) ∷ uleb (v / 128)
unfolding uleb uleb_f
uleb_more v g h =
    let k : 128 < suc v = omega arith in rw (if-gt (suc v) 128, uleb_enough 8 (v / 128) (omega arith))
