-- Numbers in groups of seven bits: byte by byte, and that the two LEB numbers are made of them.
use mathlib.Core.Path.{◌≡◌, refl}
use Prim.Native.Nat.{ℕ, zero, suc, ◌+◌, ◌*◌, ◌/◌, ◌%◌, ◌^◌, ◌≤◌, ◌<◌}
use native.Mathlib.Omega.{arith}
use mathlib.Core.Bool.{Bool, true, false}
use mathlib.Core.List.{[], ◌∷◌}
use lib.IntN.{ℤ, pos, negsuc}
use lib.Signed.{mag}
use Rattle.format.specs.Leb.{uleb_f, uleb, bits7, sleb_f, sleb}
use Rattle.format.proofs.Choice.{if-le, if-gt, either}
use Rattle.leb.specs.Groups.{groups_f, groups}
use Rattle.leb.specs.Signs.{is_negative}

module _ (last : ℕ) (low : 64 ≤ last) (s : Bool) where
  -- one byte more than enough changes nothing
  enough : (f n : ℕ) → n < 64 * 128 ^ f → groups_f last s f n ≡ groups_f last s (suc f) n
  unfolding groups_f
  enough zero n h = let l : n < last = omega arith in rw (if-le (suc n) last)
  enough (suc f) n h =
      either (suc n) last (λ l. rw (if-le (suc n) last) (rw (if-le (suc n) last)))
      (λ g. rw (if-gt (suc n) last) (rw (if-gt (suc n) last) (rw (enough f (n / 128) (omega arith)))))

  pub groups_last : (n : ℕ) → n < last → groups last s n ≡ bits7 s n ∷ []
  unfolding groups groups_f
  groups_last n h = rw (if-le (suc n) last)

  pub groups_more : (n : ℕ) → last ≤ n → n < 2 ^ 64 → groups last s n ≡ (bits7 s (n % 128) + 128) ∷ groups last s (n / 128)
  unfolding groups groups_f
  groups_more n g h =
      let k : last < suc n = omega arith in rw (if-gt (suc n) last, enough 8 (n / 128) (omega arith))

unsigned_f : (f n : ℕ) → groups_f 128 false f n ≡ uleb_f f n
unfolding groups_f uleb_f bits7
unsigned_f zero n = refl
unsigned_f (suc f) n = rw (unsigned_f f (n / 128))

pub unsigned : (n : ℕ) → groups 128 false n ≡ uleb n
unfolding groups uleb
unsigned n = unsigned_f 9 n

signed_f : (s : Bool) (f n : ℕ) → groups_f 64 s f n ≡ sleb_f s f n
unfolding groups_f sleb_f
signed_f s zero n = refl
signed_f s (suc f) n = rw (signed_f s f (n / 128))

pub signed : (v : ℤ) → groups 64 (is_negative v) (mag v) ≡ sleb v
unfolding groups sleb is_negative
signed (pos n) = signed_f false 9 n
signed (negsuc n) = signed_f true 9 n
