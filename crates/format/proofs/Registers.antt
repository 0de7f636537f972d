-- The integer registers of x86-64 are a permutation of 0 to 15, and its vector registers are 0 to 15 in order: tests over the tables, and the rule at each entry.
use mathlib.Core.Path.{◌≡◌, subst}
use mathlib.Core.Bool.{Bool, true, ◌&&◌}
use mathlib.Core.List.{List, [], ◌∷◌}
use Prim.Native.Nat.{ℕ, zero, suc, ◌+◌, ◌<◌}
use native.Mathlib.Omega.{arith}
use lib.Dec.{T, eqb, ltb, eqb→eq, ltb→lt}
use lib.ListN.{length, get_or}
use mir.Facts.{and_yes}
use Rattle.format.specs.Machine.{integers, vectors}

-- a test of each entry and its place, counted from `at`
abbrev every : (ℕ → ℕ → Bool) → ℕ → List ℕ → Bool
every test at [] = true
every test at (x ∷ xs) = test at x && every test (suc at) xs

entry_from : (test : ℕ → ℕ → Bool) (xs : List ℕ) (at : ℕ) → T (every test at xs) → (k : ℕ) → k < length xs → T (test (at + k) (get_or xs k 0))
entry_from test [] at t k h = absurd (omega arith)
entry_from test (x ∷ xs) at t zero h = let e : at ≡ at + 0 = omega arith in subst (λ (n : ℕ). T (test n x)) e (and_yes (test at x) (every test (suc at) xs) t).0
entry_from test (x ∷ xs) at t (suc k) h =
    let e : suc at + k ≡ at + suc k = omega arith in
    subst (λ (n : ℕ). T (test n (get_or xs k 0))) e (entry_from test xs (suc at) (and_yes (test at x) (every test (suc at) xs) t).1 k (omega arith))

entry_at : (test : ℕ → ℕ → Bool) (xs : List ℕ) → T (every test 0 xs) → (k : ℕ) → k < length xs → T (test k (get_or xs k 0))
entry_at test xs t k h = let e : 0 + k ≡ k = omega arith in subst (λ (n : ℕ). T (test n (get_or xs k 0))) e (entry_from test xs 0 t k h)

-- DWARF's number of each integer register: where it stands in the table
abbrev pub dwarf : List ℕ
dwarf = 0 ∷ 2 ∷ 1 ∷ 3 ∷ 7 ∷ 6 ∷ 4 ∷ 5 ∷ 8 ∷ 9 ∷ 10 ∷ 11 ∷ 12 ∷ 13 ∷ 14 ∷ 15 ∷ []

inverse : List ℕ → ℕ → ℕ → Bool
inverse other k x = eqb (get_or other x 0) k

pub one_to_one : (d : ℕ) → d < 16 → get_or dwarf (get_or integers d 0) 0 ≡ d
unfolding inverse
one_to_one d h = eqb→eq _ _ (entry_at (inverse dwarf) integers tt d h)

pub onto : (n : ℕ) → n < 16 → get_or integers (get_or dwarf n 0) 0 ≡ n
unfolding inverse
onto n h = eqb→eq _ _ (entry_at (inverse integers) dwarf tt n h)

pub in_range : (d : ℕ) → d < 16 → get_or integers d 0 < 16
in_range d h = ltb→lt _ _ (entry_at (λ k x. ltb x 16) integers tt d h)

pub in_order : (n : ℕ) → n < 16 → get_or vectors n 0 ≡ 128 + n
in_order n h = eqb→eq _ _ (entry_at (λ k x. eqb x (128 + k)) vectors tt n h)
