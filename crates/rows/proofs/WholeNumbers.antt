-- Question 24 by a test of a row's numbers that asks for more.
use mathlib.Core.Path.{◌≡◌, refl, sym, ap, ◌∙◌}
use Prim.Native.Nat.{ℕ, suc, ◌-◌, ◌%◌, ◌^◌, ◌≤◌, ◌<◌}
use native.Mathlib.Omega.{arith}
use mathlib.Core.Bool.{Bool, true, false, ◌||◌}
use mathlib.Core.Logic.{⊎_elim}
use borrow.Author.Tests.{eq-eqb}
use lib.Dec.{T, eqb, ltb, eqb→eq, ltb→lt}
use lib.IntN.{ℤ, pos, negsuc}
use mir.Syntax.{w32}
use mir.Val.{to_z}
use mir.Facts.{to_z_pos, to_z-neg, or_yes, eqb_yes}
use Rattle.format.specs.Prelude.{pick}
use Rattle.format.specs.Machine.{is_word_size}
use Rattle.format.specs.declared.Row.{Row}
use Rattle.format.specs.Rows.{whole, whole_below, row_whole}
use Rattle.format.specs.Lists.{row_of, row_ok}
use Rattle.format.proofs.Choice.{either, is_yes_lem}
use Rattle.format.proofs.ListLaws.{row_numbers}

-- ---- offsets

-- a word has two bytes at least
pub word_least : (w : ℕ) → T (is_word_size w) → 2 ≤ w
unfolding is_word_size
word_least w t =
    ⊎_elim
    (λ h. ⊎_elim (λ a. let e : w ≡ 2 = eqb_yes a in omega arith) (λ a. let e : w ≡ 4 = eqb_yes a in omega arith) (or_yes (eqb w 2) (eqb w 4) h))
    (λ a. let e : w ≡ 8 = eqb_yes a in omega arith)
    (or_yes (eqb w 2 || eqb w 4) (eqb w 8) t)

-- 2^32 is a multiple of every word
turned : (w n : ℕ) → T (is_word_size w) → n < 2 ^ 32 → n % w ≡ 0 → (2 ^ 32 - n) % w ≡ 0
unfolding is_word_size
turned w n t h z =
    ⊎_elim (λ (u : T (eqb w 2 || eqb w 4)). ⊎_elim (λ v. let e : w ≡ 2 = eqb_yes v in rw e (omega (arith, rw e at z))) (λ v. let e : w ≡ 4 = eqb_yes v in rw e (omega (arith, rw e at z)))
    (or_yes (eqb w 2) (eqb w 4) u)) (λ u. let e : w ≡ 8 = eqb_yes u in rw e (omega (arith, rw e at z)))
    (or_yes (eqb w 2 || eqb w 4) (eqb w 8) t)

pub low_is : (off : ℕ) → off < 2147483648 → to_z w32 off ≡ pos off
low_is off h = to_z_pos w32 {n = off} h

pub high_is : (off : ℕ) → 2147483647 < off → off < 2 ^ 32 → to_z w32 off ≡ negsuc (4294967295 - off)
high_is off l h =
    let k : ℕ = 4294967295 - off in
    let e : off ≡ 2 ^ 32 - suc k = omega arith in
    ap (to_z w32) e ∙ to_z-neg w32 k (omega arith)

pub offset_whole : (w off : ℕ) → T (is_word_size w) → off < 2 ^ 32 → off % w ≡ 0 → whole w (to_z w32 off) ≡ true
unfolding whole
offset_whole w off t h z =
    either off 2147483647 (λ l. rw (low_is off (omega arith)) (eq-eqb (off % w) 0 z))
    (λ g.
    let e : suc (4294967295 - off) ≡ 2 ^ 32 - off = omega arith in
    rw (high_is off g h, e) (eq-eqb ((2 ^ 32 - off) % w) 0 (turned w off t h z)))

below_whole : (w : ℕ) (z : ℤ) → whole w z ≡ true → whole_below w z ≡ true
unfolding whole_below
below_whole w (pos n) h = refl
below_whole w (negsuc n) h = h

low_whole : (w off : ℕ) → off < 2147483648 → whole_below w (to_z w32 off) ≡ true
unfolding whole_below
low_whole w off h = rw (low_is off h)

-- ---- rows

one_whole : (w : ℕ) (b : Bool) (x y : Row) → (T b → row_whole w x ≡ true) → row_whole w y ≡ true → row_whole w (pick b x y) ≡ true
unfolding pick
one_whole w true x y h k = h tt
one_whole w false x y h k = k

row_whole_lem : (w kind reg off : ℕ) → whole_below w (to_z w32 off) ≡ true → (kind ≡ 3 → whole w (to_z w32 off) ≡ true) → row_whole w (row_of kind reg off) ≡ true
unfolding row_of row_whole
row_whole_lem w kind reg off b o =
    one_whole w (eqb kind 0) _ _ (λ t. b)
    (one_whole w (eqb kind 1) _ _ (λ t. b)
    (one_whole w (eqb kind 2) _ _ (λ t. refl)
    (one_whole w (eqb kind 3) _ _ (λ t. o (eqb_yes t))
    (one_whole w (eqb kind 4) _ _ (λ t. refl)
    (one_whole w (eqb kind 5) _ _ (λ t. refl)
    (one_whole w (eqb kind 6) _ _ (λ t. refl)
    (one_whole w (eqb kind 7) _ _ (λ t. refl)
    (one_whole w (eqb kind 9) _ _ (λ t. refl) (one_whole w (eqb kind 10) _ _ (λ t. refl) refl)))))))))

-- ---- by the code's tests

pub never : {X : Type 0} → false ≡ true → X
never p = let z : ◌≡◌ {A = ℕ} 0 1 = cc in absurd (omega arith)

module _ (w kind reg off : ℕ) where
  -- an offset of whole words, whatever the kind
  pub fine_words : {q : Bool} → T (is_word_size w) → T (row_ok kind reg off) → q ≡ eqb (off % w) 0 → q ≡ true → row_whole w (row_of kind reg off) ≡ true
  fine_words t ok e p =
      let z : off % w ≡ 0 = eqb→eq (off % w) 0 (is_yes_lem (sym e ∙ p)) in
      let x : whole w (to_z w32 off) ≡ true = offset_whole w off t (row_numbers kind reg off ok).off_low z in
      row_whole_lem w kind reg off (below_whole w _ x) (λ k. x)

  -- a small one that is not factored
  pub fine_low : (kind ≡ 3 → ⊥) → ltb off 2147483648 ≡ true → row_whole w (row_of kind reg off) ≡ true
  fine_low n p =
      let h : off < 2147483648 = ltb→lt off 2147483648 (is_yes_lem p) in
      row_whole_lem w kind reg off (low_whole w off h) (λ k. absurd (n k))
