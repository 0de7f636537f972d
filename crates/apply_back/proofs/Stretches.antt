-- Stores into a stretch of a list: what stands before and behind it stays.
use mathlib.Core.Path.{◌≡◌, refl, sym, ap, ◌∙◌}
use mathlib.Core.Option.{some}
use mathlib.Core.List.{List, [], ◌∷◌, ◌++◌}
use Prim.Native.Nat.{ℕ, ◌+◌, ◌*◌, ◌/◌, ◌^◌, ◌<◌, ◌≤◌}
use native.Mathlib.Nat.{mod-eq_of_lt, mul-add-mod_self_right, mul-add-div_right, div-eq_of_lt, add-zero}
use native.Mathlib.Omega.{arith}
use lib.IntN.{ℤ, pos, ◌-ℤ◌}
use lib.ListN.{length, length-append}
use lib.Pow.{pow_pos}
use Rattle.format.specs.Put.{put}
use Rattle.format.specs.Leb.{little}
use Rattle.format.proofs.Copied.{put-behind}
use Rattle.format.proofs.LebBack.{little-length}
use Rattle.apply.specs.declared.Width.{Width}
use Rattle.apply.specs.Kinds.{bits_of, bytes_of}
use Rattle.apply.specs.Fields.{low_of, number_at, field_at, in_field, set_in, sub_in}
use Rattle.apply.proofs.Wrap.{low_lt, wraps}
use Rattle.apply.proofs.Distances.{back, within}

-- ---- stores

put_first : (mid post bs : List ℕ) → length mid ≡ length bs → put (mid ++ post) 0 bs ≡ bs ++ post
unfolding put
put_first [] post [] h = refl
put_first [] post (b ∷ bs) h = absurd (omega arith)
put_first (a ∷ mid) post [] h = absurd (omega arith)
put_first (a ∷ mid) post (b ∷ bs) h = put-behind b (mid ++ post) 0 bs ∙ ap (λ (l : List ℕ). b ∷ l) (put_first mid post bs (omega arith))

-- as many bytes as the stretch has
pub put_at : (pre mid post bs : List ℕ) → length mid ≡ length bs → put (pre ++ (mid ++ post)) (length pre) bs ≡ pre ++ (bs ++ post)
put_at [] mid post bs h = put_first mid post bs h
put_at (x ∷ pre) mid post bs h = put-behind x (pre ++ (mid ++ post)) (length pre) bs ∙ ap (λ (l : List ℕ). x ∷ l) (put_at pre mid post bs h)

-- ---- numbers

-- the number that stands there: it is what storing it once more leaves there
number_at_lem : (pre : List ℕ) (n v : ℕ) (post : List ℕ) → v < 256 ^ n → number_at (pre ++ (little n v ++ post)) (length pre) n ≡ v
number_at_lem pre n v post h =
    let bs : List ℕ = pre ++ (little n v ++ post) in
    let long : length pre + n ≤ length bs = rw (length-append, length-append, little-length) (omega arith) in
    ap (λ (xs : List ℕ). number_at xs (length pre) n) (sym (put_at pre (little n v) post (little n v) refl)) ∙ back n bs (length pre) v long h

-- ---- Set and Sub

module _ (w : Width) (pre post : List ℕ) where
  abbrev stretch : ℕ → List ℕ
  stretch v = pre ++ (little (bytes_of w) v ++ post)

  abbrev above : ℕ → ℕ
  above v = v / 2 ^ bits_of w * 2 ^ bits_of w

  in_field_lem : (v x : ℕ) → v < 256 ^ bytes_of w → in_field w (stretch v) (length pre) x ≡ stretch (above v + x)
  unfolding in_field
  in_field_lem v x h =
      rw (number_at_lem pre (bytes_of w) v post h)
      (put_at pre (little (bytes_of w) v) post (little (bytes_of w) (above v + x)) (little-length (bytes_of w) v ∙ sym (little-length (bytes_of w) (above v + x))))

  field_of : (v x : ℕ) → v < 256 ^ bytes_of w → x < 2 ^ bits_of w → field_at w (stretch (above v + x)) (length pre) ≡ x
  unfolding field_at
  field_of v x h l =
      rw (number_at_lem pre (bytes_of w) (above v + x) post (within w v x h l)) (mul-add-mod_self_right (v / 2 ^ bits_of w) (2 ^ bits_of w) x ∙ mod-eq_of_lt l)

  kept : (v x : ℕ) → x < 2 ^ bits_of w → above (above v + x) ≡ above v
  kept v x l =
      ap (λ (t : ℕ). t * 2 ^ bits_of w)
      (mul-add-div_right (pow_pos (bits_of w)) (v / 2 ^ bits_of w) x ∙ ap (λ (t : ℕ). v / 2 ^ bits_of w + t) (div-eq_of_lt l) ∙ add-zero _)

  -- the distance of x and y over the low bits of v
  pub set_sub : (v d : ℕ) (x y : ℤ) → v < 256 ^ bytes_of w → x -ℤ y ≡ pos d → d < 2 ^ bits_of w
      → sub_in w (set_in w (stretch v) (length pre) (some x)) (length pre) (some y) ≡ stretch (above v + d)
  unfolding set_in sub_in
  set_sub v d x y h e l =
      let k = bits_of w in
      let a : ℕ = low_of k x in
      let b : ℕ = low_of k (pos a -ℤ y) in
      let first : in_field w (stretch v) (length pre) a ≡ stretch (above v + a) = in_field_lem v a h in
      rw (first, field_of v a h (low_lt k x))
      (in_field_lem (above v + a) b (within w v a h (low_lt k x))
      ∙ ap (λ (t : ℕ). stretch (t + b)) (kept v a (low_lt k x))
      ∙ ap (λ (t : ℕ). stretch (above v + t)) (wraps k x y d e l))
