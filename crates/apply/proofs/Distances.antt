-- After Set and Sub a field holds the distance, and the bits above it are as they were.
use Rattle.std.proofs.Common.{◌≡◌, ℕ, zero, suc, ◌+◌, ◌*◌, ◌/◌, ◌%◌, ◌^◌, ◌<◌, ◌≤◌, List, [], ◌∷◌, length, get_or, set, ℤ, pos, ◌-ℤ◌, sym, refl, ap, ◌∙◌, subst, add-zero, mod-eq_of_lt, pow-suc, arith, length-set, get_or-set_other, get_or-set_same, pow_pos}
use mathlib.Core.Option.{some}
use native.Mathlib.Nat.{mul-add-mod_self_right, mul-add-div_right, div-eq_of_lt}
use Rattle.format.specs.Put.{put}
use Rattle.format.specs.Leb.{little}
use Rattle.format.proofs.PutLaws.{length-put, put_before}
use Rattle.apply.specs.declared.Width.{Width}
use Rattle.apply.specs.declared.Width.TheVariants.{W6, W8, W16, W32}
use Rattle.apply.specs.Kinds.{bits_of, bytes_of}
use Rattle.apply.specs.Fields.{low_of, number_at, field_at, in_field, set_in, sub_in}
use Rattle.apply.proofs.Wrap.{low_lt, wraps}

-- a store leaves what lies behind it
pub put-behind : (xs : List ℕ) (p q : ℕ) (bs : List ℕ) → p + length bs ≤ q → get_or (put xs p bs) q 0 ≡ get_or xs q 0
unfolding put
put-behind xs p q [] h = refl
put-behind xs p q (b ∷ bs) h =
    put-behind (set xs p b) (p + 1) q bs (omega arith) ∙ get_or-set_other xs p q b 0 (λ (e : q ≡ p). omega arith)

-- a number that was stored is there
pub back : (n : ℕ) (xs : List ℕ) (p x : ℕ) → p + n ≤ length xs → x < 256 ^ n → number_at (put xs p (little n x)) p n ≡ x
unfolding put little number_at
back zero xs p x h l = omega (arith, l)
back (suc n) xs p x h l =
    let t = little n (x / 256) in
    let e : get_or (put (set xs p (x % 256)) (p + 1) t) p 0 ≡ x % 256 =
    put_before (set xs p (x % 256)) (p + 1) t p (omega arith) ∙ get_or-set_same xs p (x % 256) 0 (omega arith) in
    let i : number_at (put (set xs p (x % 256)) (p + 1) t) (p + 1) n ≡ x / 256 =
    back n (set xs p (x % 256)) (p + 1) (x / 256) (omega (arith, length-set xs p (x % 256))) (omega (arith, l, pow-suc 256 n)) in
    omega (arith, e, i)

pub within : (w : Width) (x v : ℕ) → x < 256 ^ bytes_of w → v < 2 ^ bits_of w → x / 2 ^ bits_of w * 2 ^ bits_of w + v < 256 ^ bytes_of w
within W6 x v h l = omega (arith, h, l)
within W8 x v h l = omega (arith, h, l)
within W16 x v h l = omega (arith, h, l)
within W32 x v h l = omega (arith, h, l)

module _ (w : Width) (bs : List ℕ) (p v : ℕ) (h : p + bytes_of w ≤ length bs) (b : number_at bs p (bytes_of w) < 256 ^ bytes_of w) (l : v < 2 ^ bits_of w) where
  abbrev kept : ℕ
  kept = number_at bs p (bytes_of w) / 2 ^ bits_of w

  whole : number_at (in_field w bs p v) p (bytes_of w) ≡ kept * 2 ^ bits_of w + v
  unfolding in_field
  whole = back (bytes_of w) bs p _ h (within w (number_at bs p (bytes_of w)) v b l)

  pub field_is : field_at w (in_field w bs p v) p ≡ v
  unfolding field_at
  field_is = ap (λ (t : ℕ). t % 2 ^ bits_of w) whole ∙ mul-add-mod_self_right kept (2 ^ bits_of w) v ∙ mod-eq_of_lt l

  -- the bits above the field
  pub upper_kept : number_at (in_field w bs p v) p (bytes_of w) / 2 ^ bits_of w ≡ kept
  upper_kept =
      ap (λ (t : ℕ). t / 2 ^ bits_of w) whole ∙ mul-add-div_right (pow_pos (bits_of w)) kept v ∙ ap (λ (t : ℕ). kept + t) (div-eq_of_lt l) ∙ add-zero kept

  pub still : number_at (in_field w bs p v) p (bytes_of w) < 256 ^ bytes_of w
  still = subst (λ (t : ℕ). t < 256 ^ bytes_of w) (sym whole) (within w (number_at bs p (bytes_of w)) v b l)

pub in_length : (w : Width) (bs : List ℕ) (p v : ℕ) → length (in_field w bs p v) ≡ length bs
unfolding in_field
in_length w bs p v = length-put bs p _

-- x and y are what Set and Sub add up to
pub distance : (w : Width) (bs : List ℕ) (p : ℕ) (x y : ℤ) (d : ℕ) → p + bytes_of w ≤ length bs → number_at bs p (bytes_of w) < 256 ^ bytes_of w
    → x -ℤ y ≡ pos d → d < 2 ^ bits_of w → field_at w (sub_in w (set_in w bs p (some x)) p (some y)) p ≡ d
unfolding set_in sub_in
distance w bs p x y d h g e l =
    let k = bits_of w in
    let v = low_of k x in
    let xs = in_field w bs p v in
    let f : field_at w xs p ≡ v = field_is w bs p v h g (low_lt k x) in
    field_is w xs p _ (omega (arith, h, in_length w bs p v)) (still w bs p v h g (low_lt k x)) (low_lt k _)
    ∙ ap (λ (n : ℕ). low_of k (pos n -ℤ y)) f
    ∙ wraps k x y d e l
