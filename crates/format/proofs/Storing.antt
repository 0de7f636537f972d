-- A loop that stores a list byte by byte: what it knows at each turn.
use mathlib.Core.Path.{◌≡◌, refl, sym, ◌∙◌}
use mathlib.Core.List.{List, [], ◌∷◌, ◌++◌}
use Prim.Native.Nat.{ℕ, ◌+◌, ◌≤◌}
use native.Mathlib.Omega.{arith}
use lib.ListN.{length, set, length-set, length-append}
use Rattle.format.specs.Put.{put}
use Rattle.format.proofs.Wrote.{Wrote}
use Rattle.format.proofs.PutLaws.{put_none, put_cons, put-append, kept}

-- xs₀ is xs by now, i is the next place, and of `all`, which goes from p on, `left` is still to be stored
pub record Storing (xs₀ xs : List ℕ) (p i : ℕ) (all left : List ℕ) : Type 0 where
  pub kept : length xs ≡ length xs₀
  pub place : i + length left ≡ p + length all
  pub room : i + length left ≤ length xs
  pub same : put xs i left ≡ put xs₀ p all

pub start : {xs : List ℕ} {p : ℕ} {all : List ℕ} → p + length all ≤ length xs → Storing xs xs p p all all
start h = record { kept = refl; place = refl; room = h; same = refl }

pub turn : {xs₀ xs : List ℕ} {p i b : ℕ} {all left : List ℕ} → Storing xs₀ xs p i all (b ∷ left) → Storing xs₀ (set xs i b) p (i + 1) all left
turn {xs₀} {xs} {p} {i} {b} {all} {left} c = record {
  kept = simp length-set c.kept;
  place = omega (arith, c.place);
  room = simp length-set (omega (arith, c.room));
  same = sym (put_cons xs i b left) ∙ c.same;
}

-- a writer stored the next part of what is still to be stored
pub stored_next : {xs₀ xs ys : List ℕ} {p i j : ℕ} {all left : List ℕ} (us : List ℕ) → Storing xs₀ xs p i all (us ++ left) → Wrote xs ys i j us
    → Storing xs₀ ys p j all left
stored_next {xs₀} {xs} {ys} {p} {i} {j} {all} {left} us c w = record {
  kept = kept w ∙ c.kept;
  place = omega (arith, c.place, w.past, length-append us left);
  room = omega (arith, kept w, c.room, w.past, length-append us left);
  same = rw (w.stored, w.past) (sym (put-append xs i us left) ∙ c.same);
}

pub ended : {xs₀ xs : List ℕ} {p i : ℕ} {all : List ℕ} → Storing xs₀ xs p i all [] → Wrote xs₀ xs p i all
ended {xs₀} {xs} {p} {i} c = record { past = omega (arith, c.place); stored = sym (put_none xs i) ∙ c.same }
