-- Laws of stores: runs of stores compose, a field may be stored over its blank, and the buffer keeps its length.
use mathlib.Core.Path.{◌≡◌, refl, ap, ◌∙◌}
use mathlib.Core.List.{List, [], ◌∷◌, ◌++◌, append_assoc, append-nil}
use Prim.Native.Nat.{ℕ, suc, ◌+◌, ◌≤◌, ◌<◌}
use native.Mathlib.Nat.{add-zero, zero-add}
use native.Mathlib.Numerals.{add-one}
use native.Mathlib.Omega.{arith}
use lib.ListN.{length, take, set, length-set, length-append, get_or}
use lib.Seq.{set_comm, set-set, take-suc-set, get_or-set_other}
use Rattle.format.specs.Put.{put}
use Rattle.format.proofs.Wrote.{Wrote}

-- ---- put

pub put_none : (xs : List ℕ) (p : ℕ) → put xs p [] ≡ xs
unfolding put
put_none xs p = refl

pub put_one : (xs : List ℕ) (p b : ℕ) → put xs p (b ∷ []) ≡ set xs p b
unfolding put
put_one xs p b = refl

pub put_cons : (xs : List ℕ) (p b : ℕ) (bs : List ℕ) → put xs p (b ∷ bs) ≡ put (set xs p b) (p + 1) bs
unfolding put
put_cons xs p b bs = refl

pub length-put : (xs : List ℕ) (p : ℕ) (bs : List ℕ) → length (put xs p bs) ≡ length xs
unfolding put
length-put xs p [] = refl
length-put xs p (b ∷ bs) = length-put (set xs p b) (p + 1) bs ∙ length-set xs p b

-- two runs of stores, one after the other
pub put-append : (xs : List ℕ) (p : ℕ) (us bs : List ℕ) → put xs p (us ++ bs) ≡ put (put xs p us) (p + length us) bs
unfolding put
put-append xs p [] bs = rw add-zero
put-append xs p (u ∷ us) bs =
    let e : p + 1 + length us ≡ p + length (u ∷ us) = omega arith in
    put-append (set xs p u) (p + 1) us bs ∙ ap (λ (n : ℕ). put (put (set xs p u) (p + 1) us) n bs) e

-- in front of what was stored the buffer is as it was
pub put_before : (xs : List ℕ) (p : ℕ) (bs : List ℕ) (q : ℕ) → q < p → get_or (put xs p bs) q 0 ≡ get_or xs q 0
unfolding put
put_before xs p [] q h = refl
put_before xs p (b ∷ bs) q h = put_before (set xs p b) (p + 1) bs q (omega arith) ∙ get_or-set_other xs p q b 0 (λ e. omega arith)

-- a store in front of a run may go first
pub set-put : (xs : List ℕ) (p v q : ℕ) (bs : List ℕ) → p < q → set (put xs q bs) p v ≡ put (set xs p v) q bs
unfolding put
set-put xs p v q [] h = refl
set-put xs p v q (b ∷ bs) h =
    set-put (set xs q b) p v (q + 1) bs (omega arith)
    ∙ ap (λ (l : List ℕ). put l (q + 1) bs) (set_comm xs q p b v (λ (e : q ≡ p). omega arith))

-- and so may a run in front of another
pub put-in_front : (xs : List ℕ) (p q : ℕ) (us bs : List ℕ) → p + length us ≤ q → put (put xs q bs) p us ≡ put (put xs p us) q bs
unfolding put
put-in_front xs p q [] bs h = refl
put-in_front xs p q (u ∷ us) bs h = rw (set-put xs p u q bs (omega arith)) (put-in_front (set xs p u) (p + 1) q us bs (omega arith))

-- the front of what was stored
take_put : (xs : List ℕ) (p : ℕ) (bs : List ℕ) → p + length bs ≤ length xs → take (p + length bs) (put xs p bs) ≡ take p xs ++ bs
take_put xs p [] h = rw (add-zero, put_none, append-nil) refl
take_put xs p (b ∷ bs) h =
    let e : p + length (b ∷ bs) ≡ suc p + length bs = omega arith in
    rw (e, put_cons, add-one p)
    (take_put (set xs p b) (suc p) bs (omega (arith, length-set xs p b)) ∙ rw (take-suc-set xs p b (omega arith), append_assoc) refl)

pub front_is : (xs bs : List ℕ) → length bs ≤ length xs → take (length bs) (put xs 0 bs) ≡ bs
front_is xs bs h = rw (zero-add (length bs)) at (take_put xs 0 bs (omega arith))

-- as many bytes stored over the first of a run
pub put_again : (xs : List ℕ) (p : ℕ) (us vs bs : List ℕ) → length us ≡ length vs → put (put xs p (us ++ bs)) p vs ≡ put xs p (vs ++ bs)
unfolding put
put_again xs p [] [] bs h = refl
put_again xs p [] (v ∷ vs) bs h = absurd (omega arith)
put_again xs p (u ∷ us) [] bs h = absurd (omega arith)
put_again xs p (u ∷ us) (v ∷ vs) bs h =
    rw (set-put (set xs p u) p v (p + 1) (us ++ bs) (omega arith), set-set) (put_again (set xs p v) (p + 1) us vs bs (omega arith))

-- ---- Wrote

infixr 4 ◌then◌
pub ◌then◌ : {xs ys zs : List ℕ} {p q r : ℕ} {us bs : List ℕ} → Wrote xs ys p q us → Wrote ys zs q r bs → Wrote xs zs p r (us ++ bs)
◌then◌ {xs} {ys} {zs} {p} {q} {r} {us} {bs} a b = record {
  past = omega (arith, length-append us bs);
  stored = b.stored ∙ rw (a.stored, a.past, put-append xs p us bs);
}

-- a writer that stores nothing
pub idle : {xs : List ℕ} {p : ℕ} → Wrote xs xs p p []
idle {xs} {p} = record { past = omega arith; stored = rw put_none }

-- a writer keeps the buffer's length
pub kept : {xs ys : List ℕ} {p q : ℕ} {bs : List ℕ} → Wrote xs ys p q bs → length ys ≡ length xs
kept {xs} {ys} {p} {q} {bs} w = ap length w.stored ∙ length-put xs p bs

-- a field stored over a blank of its length, in front of what was stored past the blank
pub again : {xs ys zs : List ℕ} {p q r : ℕ} (us vs bs : List ℕ) → length us ≡ length vs → Wrote xs ys p q (us ++ bs) → Wrote ys zs p r vs
    → Wrote xs zs p q (vs ++ bs)
again {xs} {ys} {zs} {p} {q} {r} us vs bs h a b = record {
  past = omega (arith, a.past, length-append us bs, length-append vs bs);
  stored = b.stored ∙ rw a.stored (put_again xs p us vs bs h);
}
