-- A list that is zero as far as it is needed: what is stored and cleared again, and what `ready` answers.
use mathlib.Core.Path.{◌≡◌, refl, sym, ap, ◌∙◌}
use Prim.Native.Nat.{ℕ, ◌+◌, ◌≤◌}
use mathlib.Core.Bool.{Bool, true, false, not, ◌&&◌}
use mathlib.Core.List.{List, [], ◌∷◌, ◌++◌}
use native.Mathlib.Omega.{arith}
use lib.Dec.{T, leb, eqb}
use lib.ListN.{length, take, drop, set, replicate, length-append, length-replicate, length-drop, take-append-drop}
use lib.Seq.{drop-set-lt, length-take-le}
use borrow.Author.Tests.{eqb-true, not-true, not-false}
use Rattle.format.specs.Prelude.{all}
use Rattle.format.specs.Put.{put}
use Rattle.format.proofs.PutLaws.{put_none, put_cons}
use Rattle.struct_entries.specs.Entries.{needed, is_zero, ready_for, cleared}

-- ---- what is cleared

pub length_cleared : (xs : List ℕ) (n : ℕ) → n ≤ length xs → length (cleared xs n) ≡ length xs
unfolding cleared
length_cleared xs n h = omega (arith, length-append (replicate n 0) (drop n xs), length-replicate {A = ℕ} n 0, length-drop n xs)

-- what is stored before n does not change what stands from n on
drop-put : (n : ℕ) (xs : List ℕ) (p : ℕ) (bs : List ℕ) → p + length bs ≤ n → drop n (put xs p bs) ≡ drop n xs
drop-put n xs p [] h = ap (drop n) (put_none xs p)
drop-put n xs p (b ∷ bs) h =
    ap (drop n) (put_cons xs p b bs) ∙ drop-put n (set xs p b) (p + 1) bs (omega arith) ∙ drop-set-lt n xs p b (omega arith)

zeros_from : (x : ℕ) (xs : List ℕ) → (T (all is_zero xs) → xs ≡ replicate (length xs) 0) → (t : Bool) → eqb x 0 ≡ t → T (t && all is_zero xs)
    → x ∷ xs ≡ 0 ∷ replicate (length xs) 0
zeros_from x xs more true e t = let s : x ≡ 0 = eqb-true x 0 e in let rest : xs ≡ replicate (length xs) 0 = more t in cc
zeros_from x xs more false e t = absurd t

-- a list that is all zero is what it is when it is cleared
pub zeros : (xs : List ℕ) → T (all is_zero xs) → xs ≡ replicate (length xs) 0
unfolding all is_zero
zeros [] t = refl
zeros (x ∷ xs) t = zeros_from x xs (zeros xs) (eqb x 0) refl t

-- a list that was zero as far as it was stored in is as it was once it is cleared so far
pub restored : (xs ns : List ℕ) (n : ℕ) → length ns ≡ n → n ≤ length xs → T (all is_zero (take n xs)) → cleared (put xs 0 ns) n ≡ xs
unfolding cleared
restored xs ns n e h t =
    let l : length (take n xs) ≡ n = length-take-le n xs h in
    let z : replicate n 0 ≡ take n xs = sym (zeros (take n xs) t ∙ ap (λ (k : ℕ). replicate k 0) l) in
    let m : 0 + length ns ≤ n = omega arith in
    ap (λ (us : List ℕ). us ++ drop n (put xs 0 ns)) z ∙ ap (λ (us : List ℕ). take n xs ++ us) (drop-put n xs 0 ns m) ∙ take-append-drop n xs

-- ---- what `ready` answers

module _ (xs : List ℕ) (f r : ℕ) {t : Bool} (e : t ≡ leb (needed f r) (length xs)) where
  pub too_short : not t ≡ true → false ≡ ready_for xs f r
  unfolding ready_for
  too_short h = let q : leb (needed f r) (length xs) ≡ false = sym e ∙ not-true t h in rw q

  pub by_zeros : not t ≡ false → {z : Bool} → z ≡ all is_zero (take (needed f r) xs) → z ≡ ready_for xs f r
  unfolding ready_for
  by_zeros h {z} s = let q : leb (needed f r) (length xs) ≡ true = sym e ∙ not-false t h in rw q s
