-- The numbers of a machine's map, asked and copied one after another.
use mathlib.Core.Path.{◌≡◌, refl, sym, subst, ◌∙◌}
use Prim.Native.Nat.{ℕ, zero, suc, ◌+◌, ◌≤◌, ◌<◌}
use native.Mathlib.Omega.{arith}
use native.Mathlib.Numerals.{add-one}
use native.Mathlib.Nat.{le_of_suc-le-suc}
use mathlib.Core.Bool.{Bool, true, and-false}
use mathlib.Core.List.{List, [], ◌∷◌}
use borrow.Author.Tests.{lt-leb}
use lib.Dec.{T, leb, leb→le}
use lib.ListN.{length, get_or, take, drop, set, replicate, length-set, length-take, length-drop}
use lib.Seq.{take-suc, take-suc-set, take_all, get_or-take, get_or-drop}
use mir.Facts.{and_yes}
use Rattle.format.specs.Prelude.{all}
use Rattle.format.specs.Machine.{is_word_size, machine_of, machine_ok}
use Rattle.format.proofs.Choice.{either, tested, is_false}

abbrev pub is_byte : ℕ → Bool
is_byte n = leb n 255

-- a test that every element passes, at one of them
pub each_passes : (test : ℕ → Bool) (xs : List ℕ) (i : ℕ) → T (all test xs) → i < length xs → T (test (get_or xs i 0))
unfolding all
each_passes test [] i t h = absurd (omega arith)
each_passes test (x ∷ xs) zero t h = (and_yes (test x) (all test xs) t).0
each_passes test (x ∷ xs) (suc i) t h = each_passes test xs i (and_yes (test x) (all test xs) t).1 (le_of_suc-le-suc h)

-- a word is no zero
pub word_some : (w : ℕ) → is_word_size w ≡ true → 0 < w
unfolding is_word_size
word_some zero e = absurd (subst T (sym e) tt)
word_some (suc w) e = omega arith

-- a list that question 11 accepts: long enough, and with bytes for its map
module _ (ms : List ℕ) (t : T (machine_ok ms)) where
  pub long : 70 ≤ length ms
  unfolding machine_ok
  long = either 70 (length ms) (λ h. h) (λ l. absurd (rw (lt-leb 70 (length ms) l) at t))

  pub byte : (i : ℕ) → i < 64 → get_or ms (6 + i) 0 ≤ 255
  unfolding machine_ok machine_of
  byte i h =
      let map : List ℕ = take 64 (drop 6 ms) in
      tested (all is_byte map)
      (λ y.
      let l : i < length map = simp (length-take, length-drop) (omega (arith, long)) in
      rw (get_or-take 64 (drop 6 ms) i 0, get_or-drop 6 ms i 0) at (leb→le (get_or map i 0) 255 (each_passes is_byte map i y l)))
      (λ n. absurd (simp (is_false (all is_byte map) n, and-false) at t))

-- i numbers of the map are copied
pub record Copied (ms map : List ℕ) (i : ℕ) : Type 0 where
  pub high : i ≤ 64
  pub long : 70 ≤ length ms
  pub full : length map ≡ 64
  pub front : take i map ≡ take i (drop 6 ms)

pub start : (ms : List ℕ) → T (machine_ok ms) → Copied ms (replicate 64 0) 0
start ms t = record { high = omega arith; long = long ms t; full = refl; front = refl }

module _ {ms map : List ℕ} {i : ℕ} (c : Copied ms map i) where
  pub turn : i < 64 → Copied ms (set map i (get_or ms (6 + i) 0)) (i + 1)
  turn h =
      let a : i < length map = omega (arith, c.full) in
      let b : i < length (drop 6 ms) = simp length-drop (omega (arith, c.long)) in
      record {
        high = omega arith;
        long = c.long;
        full = length-set map i (get_or ms (6 + i) 0) ∙ c.full;
        front = rw (add-one i, take-suc-set map i (get_or ms (6 + i) 0) a, take-suc (drop 6 ms) i 0 b, c.front, get_or-drop 6 ms i 0);
      }

  pub ended : 64 ≤ i → map ≡ take 64 (drop 6 ms)
  ended h =
      let e : i ≡ 64 = omega (arith, c.high) in
      sym (take_all 64 map (omega (arith, c.full))) ∙ (rw e at c.front)
