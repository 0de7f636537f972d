-- Laws of what is stored where it fits, for one struct and for a list of them.
use mathlib.Core.Path.{◌≡◌, refl, sym, ap, ◌∙◌}
use mathlib.Core.Bool.{Bool, true, false, not}
use mathlib.Core.List.{List, [], ◌∷◌}
use borrow.Rule.Slice.PartMut.{put_mid}
use Prim.Native.Nat.{ℕ, zero, suc, ◌+◌, ◌*◌, ◌≤◌, ◌<◌}
use native.Mathlib.Nat.{mul-suc, mul-zero}
use native.Mathlib.Omega.{arith}
use borrow.Author.Tests.{leb-true, leb-false}
use lib.Dec.{T, leb}
use lib.ListN.{length, get_or, take, length-append}
use Rattle.format.specs.Put.{put}
use Rattle.format.proofs.Wrote.{Wrote}
use Rattle.format.proofs.Choice.{if-le, if-gt, either}
use Rattle.format.proofs.Copied as part
use Rattle.format.proofs.PutLaws.{put_none, put-append, length-put}
use Rattle.struct_entries.specs.Structs.{numbers_of}
use Rattle.struct_entries.specs.Packed.{stored, stored_all, Packs}

-- ---- one struct's numbers

module _ (xs : List ℕ) (p : ℕ) (ns : List ℕ) where
  pub fitting : p + length ns ≤ length xs → stored xs p ns ≡ put xs p ns
  unfolding stored
  fitting h = if-le (p + length ns) (length xs) (put xs p ns) xs h

  over : length xs < p + length ns → stored xs p ns ≡ xs
  unfolding stored
  over h = if-gt (p + length ns) (length xs) (put xs p ns) xs h

  pub no_room : leb (p + length ns) (length xs) ≡ false → xs ≡ stored xs p ns
  no_room e = sym (over (leb-false _ _ e))

  length_stored : length (stored xs p ns) ≡ length xs
  length_stored = either (p + length ns) (length xs) (λ h. ap length (fitting h) ∙ length-put xs p ns) (λ h. ap length (over h))

pub room : {xs ys : List ℕ} {p q : ℕ} {ns : List ℕ} → leb (p + length ns) (length xs) ≡ true → Wrote xs ys p q ns → ys ≡ stored xs p ns
room {xs} {ys} {p} {q} {ns} e w = w.stored ∙ sym (fitting xs p ns (leb-true _ _ e))

-- ns copied over the k numbers from p on
pub copied : (xs : List ℕ) (p : ℕ) {ns ys : List ℕ} {k : ℕ} → p + length ns ≤ length xs → k ≡ length ns → ys ≡ ns → put_mid p k xs ys ≡ stored xs p ns
copied xs p {ns} h e g = (part.copied g refl e h).stored ∙ sym (fitting xs p ns h)

-- ---- a list of structs

module _ {A : Type 0} (one : A → List ℕ) where
  pub length-all : (xs : List ℕ) (p : ℕ) (ys : List A) → length (stored_all one xs p ys) ≡ length xs
  unfolding stored_all
  length-all xs p [] = refl
  length-all xs p (y ∷ ys) = length-all (stored xs p (one y)) (p + length (one y)) ys ∙ length_stored xs p (one y)

  pub none_yet : (xs : List ℕ) (p : ℕ) (ys : List A) → stored_all one xs p (take 0 ys) ≡ xs
  unfolding stored_all
  none_yet xs p ys = refl

  -- where the whole fits it is one run of stores
  pub together : (xs : List ℕ) (p : ℕ) (ys : List A) → p + length (numbers_of one ys) ≤ length xs → stored_all one xs p ys ≡ put xs p (numbers_of one ys)
  unfolding stored_all numbers_of
  together xs p [] h = sym (put_none xs p)
  together xs p (y ∷ ys) h =
      let e : stored xs p (one y) ≡ put xs p (one y) = fitting xs p (one y) (omega (arith, length-append (one y) (numbers_of one ys))) in
      ap (λ zs. stored_all one zs (p + length (one y)) ys) e
      ∙ together (put xs p (one y)) (p + length (one y)) ys (omega (arith, length-put xs p (one y), length-append (one y) (numbers_of one ys)))
      ∙ sym (put-append xs p (one y) (numbers_of one ys))

  module _ {stride : ℕ} (even : (x : A) → length (one x) ≡ stride) where
    pub length_numbers : (ys : List A) → length (numbers_of one ys) ≡ stride * length ys
    unfolding numbers_of
    length_numbers [] = sym (mul-zero stride)
    length_numbers (y ∷ ys) = omega (arith, length-append (one y) (numbers_of one ys), length_numbers ys, even y, mul-suc stride (length ys))

    -- struct i goes past the first i
    pub next : (xs : List ℕ) (p : ℕ) (ys : List A) (i : ℕ) (d : A) → i < length ys
        → stored (stored_all one xs p (take i ys)) (p + stride * i) (one (get_or ys i d)) ≡ stored_all one xs p (take (suc i) ys)
    unfolding stored_all
    next xs p [] i d h = absurd (omega arith)
    next xs p (y ∷ ys) zero d h = let e : p + stride * 0 ≡ p = omega (arith, mul-zero stride) in ap (λ k. stored xs k (one y)) e
    next xs p (y ∷ ys) (suc i) d h =
        let e : p + stride * suc i ≡ p + length (one y) + stride * i = omega (arith, even y, mul-suc stride i) in
        ap (λ k. stored (stored_all one (stored xs p (one y)) (p + length (one y)) (take i ys)) k (one (get_or ys i d))) e
        ∙ next (stored xs p (one y)) (p + length (one y)) ys i d (omega arith)

    -- what the test of room, t, says of a list that is packed
    module _ (ys : List A) (xs : List ℕ) where
      pub refused : (t : Bool) → t ≡ leb (stride * length ys) (length xs) → T (not t) → Packs (numbers_of one ys) xs xs 54
      refused true e h = absurd h
      refused false e _ =
          let h : length xs < length (numbers_of one ys) = omega (arith, length_numbers ys, leb-false (stride * length ys) (length xs) (sym e)) in
          record { answer = sym (if-gt (length (numbers_of one ys)) (length xs) 0 54 h); list = sym (over xs 0 (numbers_of one ys) (omega (arith, h))) }

      pub accepted : (t : Bool) → t ≡ leb (stride * length ys) (length xs) → T (not (not t)) → {zs : List ℕ} → zs ≡ stored_all one xs 0 ys → Packs (numbers_of one ys) xs zs 0
      accepted false e h s = absurd h
      accepted true e _ s =
          let h : length (numbers_of one ys) ≤ length xs = omega (arith, length_numbers ys, leb-true (stride * length ys) (length xs) (sym e)) in
          let g : 0 + length (numbers_of one ys) ≤ length xs = omega (arith, h) in
          record { answer = sym (if-le (length (numbers_of one ys)) (length xs) 0 54 h); list = s ∙ together xs 0 ys g ∙ sym (fitting xs 0 (numbers_of one ys) g) }
