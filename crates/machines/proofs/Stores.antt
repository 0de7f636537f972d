-- The numbers of a list stored one after another.
use mathlib.Core.Path.{◌≡◌, refl, sym, ap, ◌∙◌}
use Prim.Native.Nat.{ℕ, ◌+◌, ◌≤◌, ◌<◌}
use native.Mathlib.Omega.{arith}
use native.Mathlib.Nat.{add-zero}
use native.Mathlib.Numerals.{add-one}
use mathlib.Core.List.{List, [], ◌∷◌}
use lib.ListN.{length, get_or, set, drop, length-set, length-drop}
use lib.Seq.{drop-cons}
use Rattle.format.specs.Put.{put}
use Rattle.format.proofs.PutLaws.{put_none, put_cons}

-- the first i numbers are stored; those that are left make the whole
pub record Storing (old numbers : List ℕ) (at : ℕ) (out : List ℕ) (i : ℕ) : Type 0 where
  pub left : put out (at + i) (drop i numbers) ≡ put old at numbers
  pub same : length out ≡ length old
  pub most : i ≤ length numbers

pub start : (out numbers : List ℕ) (at : ℕ) → Storing out numbers at out 0
start out numbers at = record { left = rw add-zero; same = refl; most = omega arith }

module _ {old numbers : List ℕ} {at : ℕ} {out : List ℕ} {i : ℕ} (s : Storing old numbers at out i) where
  pub turn : i < length numbers → Storing old numbers at (set out (at + i) (get_or numbers i 0)) (i + 1)
  turn h =
      let e : at + i + 1 ≡ at + (i + 1) = omega arith in
      let d : drop i numbers ≡ get_or numbers i 0 ∷ drop (i + 1) numbers = rw (add-one i) (drop-cons numbers i 0 h) in
      record {
        left =
            sym (put_cons out (at + i) (get_or numbers i 0) (drop (i + 1) numbers) ∙ ap (λ (n : ℕ). put (set out (at + i) (get_or numbers i 0)) n (drop (i + 1) numbers)) e)
            ∙ ap (λ (l : List ℕ). put out (at + i) l) (sym d) ∙ s.left;
        same = length-set out (at + i) (get_or numbers i 0) ∙ s.same;
        most = omega arith;
      }

  pub ended : length numbers ≤ i → out ≡ put old at numbers
  ended h = sym (ap (λ (l : List ℕ). put out (at + i) l) (none (drop i numbers) (omega (arith, length-drop i numbers))) ∙ put_none out (at + i)) ∙ s.left
    where
      none : (l : List ℕ) → length l ≡ 0 → l ≡ []
      none [] e = refl
      none (x ∷ xs) e = absurd (omega arith)
