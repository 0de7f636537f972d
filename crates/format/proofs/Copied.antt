-- Laws of a run of stores that fits: the buffer by its parts, and what the library's copy into a part of a buffer stores.
use mathlib.Core.Path.{◌≡◌, refl, sym, ap, ◌∙◌}
use Prim.Native.Nat.{ℕ, suc, ◌+◌, ◌≤◌}
use native.Mathlib.Omega.{arith}
use mathlib.Core.List.{List, [], ◌∷◌, ◌++◌, append_assoc}
use lib.ListN.{length, take, drop, set, length-set, take-append-drop}
use borrow.Rule.Slice.PartMut.{put_mid}
use lib.Seq.{take-suc-set, drop-set-lt, drop-drop}
use Rattle.format.specs.Put.{put}
use Rattle.format.proofs.Wrote.{Wrote}

pub put_from : (xs : List ℕ) (p : ℕ) (bs : List ℕ) → p + length bs ≤ length xs → put xs p bs ≡ take p xs ++ (bs ++ drop (p + length bs) xs)
unfolding put
put_from xs p [] h = let e : p + 0 ≡ p = omega arith in rw e (sym (take-append-drop p xs))
put_from xs p (b ∷ bs) h =
    let e : p + 1 + length bs ≡ p + length (b ∷ bs) = omega arith in
    let a : p + 1 ≡ suc p = omega arith in
    put_from (set xs p b) (p + 1) bs (omega (arith, length-set xs p b))
    ∙ rw (e, a, take-suc-set xs p b (omega arith), drop-set-lt (p + length (b ∷ bs)) xs p b (omega arith)) (append_assoc (take p xs) (b ∷ []) (bs ++ drop (p + length (b ∷ bs)) xs))

-- over the front of a buffer
pub put_front : (xs bs : List ℕ) → length bs ≤ length xs → put xs 0 bs ≡ bs ++ drop (length bs) xs
put_front xs bs h = let e : 0 + length bs ≡ length bs = omega arith in rw e at (put_from xs 0 bs (omega arith))

-- behind the first element
pub put-behind : (x : ℕ) (xs : List ℕ) (p : ℕ) (bs : List ℕ) → put (x ∷ xs) (suc p) bs ≡ x ∷ put xs p bs
unfolding put
put-behind x xs p [] = refl
put-behind x xs p (b ∷ bs) = let e : suc p + 1 ≡ suc (p + 1) = omega arith in rw e (put-behind x (set xs p b) (p + 1) bs)

-- bs, by the library's `copy_from_slice` or `fill` of the n elements from p on
pub copied : {xs ys bs : List ℕ} {p n j : ℕ} → ys ≡ bs → n ≡ length bs → j ≡ n → p + n ≤ length xs → Wrote xs (put_mid p j xs ys) p (p + n) bs
copied {xs} {ys} {bs} {p} {n} {j} e l d h = record {
  past = ap (λ i. p + i) l;
  stored = rw (e, d, l, put_from xs p bs (omega (arith, l, h)), drop-drop (length bs) p xs);
}
