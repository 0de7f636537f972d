-- What the code stores in a field of Set and Sub is what the definition stores.
use Rattle.std.proofs.Common.{◌≡◌, ℕ, ◌+◌, ◌-◌, ◌*◌, ◌/◌, ◌%◌, ◌^◌, ◌<◌, ◌≤◌, List, ℤ, pos, ◌+ℤ◌, refl, ap, ◌∙◌, arith, w64, to_z, mod-lt, pow_pos}
use mathlib.Core.Option.{Option, none, some}
use Rattle.format.specs.Prelude.{after}
use Rattle.format.specs.Put.{put}
use Rattle.format.specs.Leb.{little}
use Rattle.format.specs.Lists.{Relocation}
use Rattle.apply.specs.declared.Width.{Width}
use Rattle.apply.specs.declared.Width.TheVariants.{W6, W8, W16, W32}
use Rattle.apply.specs.Kinds.{bits_of, bytes_of}
use Rattle.apply.specs.Fields.{low_of, number_at, field_at, in_field, set_in, sub_in}
use Rattle.apply.specs.Values.{address_of, sum_of}
use Rattle.apply.specs.Standing.{patched}
use Rattle.apply.proofs.Wrap.{low_lt, set_low, sub_low}

narrow : (w : Width) → bits_of w ≤ 64
narrow W6 = omega arith
narrow W8 = omega arith
narrow W16 = omega arith
narrow W32 = omega arith

power : (w : Width) → 2 ^ bits_of w ≤ 2 ^ 64
power W6 = omega arith
power W8 = omega arith
power W16 = omega arith
power W32 = omega arith

stored : (w : Width) (bs : List ℕ) (p n m old v : ℕ) → n ≡ bytes_of w → m ≡ 2 ^ bits_of w → old ≡ number_at bs p (bytes_of w)
    → put bs p (little n (old / m * m + v)) ≡ in_field w bs p v
unfolding in_field
stored w bs p n m old v en em eo = rw (en, em, eo)

module _ (w : Width) (made : ℕ → ℕ → ℕ) (bs : List ℕ) (p : ℕ) (ss : List (ℕ × ℕ)) (r : Relocation) where
  pub patched_none : address_of ss r.symbol ≡ none → bs ≡ patched w made bs p (sum_of ss r)
  unfolding patched sum_of after
  patched_none e = rw e

  pub patched_some : {s n m old v : ℕ} → address_of ss r.symbol ≡ some s → n ≡ bytes_of w → m ≡ 2 ^ bits_of w → old ≡ number_at bs p (bytes_of w)
      → v ≡ made (old % m) (low_of 64 (pos s +ℤ to_z w64 r.addend)) → put bs p (little n (old / m * m + v % m)) ≡ patched w made bs p (sum_of ss r)
  unfolding patched field_at sum_of after
  patched_some {s} {n} {m} {old} {v} e en em eo ev = stored w bs p n m old (v % m) en em eo ∙ rw (e, ev, em, eo)

module _ (w : Width) (bs : List ℕ) (p : ℕ) where
  pub set_is : (o : Option ℤ) → patched w (λ x y. y) bs p o ≡ set_in w bs p o
  unfolding patched set_in
  set_is none = refl
  set_is (some z) = ap (in_field w bs p) (set_low (bits_of w) (narrow w) z)

  pub sub_is : (o : Option ℤ) → patched w (λ x y. (x + (2 ^ 64 - y)) % 2 ^ 64) bs p o ≡ sub_in w bs p o
  unfolding patched sub_in field_at
  sub_is none = refl
  sub_is (some z) =
      let f = number_at bs p (bytes_of w) % 2 ^ bits_of w in
      let b = low_of 64 z in
      let h : f < 2 ^ bits_of w = mod-lt (number_at bs p (bytes_of w)) (pow_pos (bits_of w)) in
      let g : ((f + (2 ^ 64 - b)) % 2 ^ 64 + b) % 2 ^ 64 ≡ f = omega (arith, h, power w, low_lt 64 z) in
      ap (in_field w bs p) (sub_low (bits_of w) (narrow w) ((f + (2 ^ 64 - b)) % 2 ^ 64) f z g)
