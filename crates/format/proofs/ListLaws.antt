-- Records in lists of numbers: how many there are, which one stands where, and what a test of all of them says of one.
use mathlib.Core.Path.{◌≡◌, refl, ap, subst, ◌∙◌}
use Prim.Native.Nat.{ℕ, zero, suc, ◌+◌, ◌-◌, ◌*◌, ◌/◌, ◌^◌, ◌≤◌, ◌<◌}
use native.Mathlib.Omega.{arith}
use native.Mathlib.Numerals.{add-one}
use mathlib.Core.Bool.{Bool, true, false, ◌&&◌}
use mathlib.Core.Option.{some}
use mathlib.Core.List.{List, [], ◌∷◌, ◌++◌, map}
use lib.ListN.{length, get_or, get_elem?}
use lib.Dec.{T, leb, ltb, eqb, leb→le, ltb→lt}
use mir.Facts.{and_yes}
use Rattle.format.specs.Prelude.{pick, all, each}
use Rattle.format.specs.Lists.{Relocation, field, relocation_stride, relocation_at, relocations_of, numbers_of, has_register, has_offset, second_operands, row_ok, all_in, sum_of, symbol_ok, inside}

-- ---- a function at each number of a range

module _ {A : Type 0} where
  pub each-length : (f : ℕ → A) (at n : ℕ) → length (each f at n) ≡ n
  unfolding each
  each-length f at zero = refl
  each-length f at (suc n) = ap suc (each-length f (suc at) n)

  pub each_get : (f : ℕ → A) (at n k : ℕ) → k < n → get_elem? (each f at n) k ≡ some (f (at + k))
  unfolding each
  each_get f at zero k h = absurd (omega arith)
  each_get f at (suc n) zero h = ap (λ (i : ℕ). some (f i)) (omega arith)
  each_get f at (suc n) (suc k) h = each_get f (suc at) n k (omega arith) ∙ ap (λ (i : ℕ). some (f i)) (omega arith)

  -- those from k on: one more, or none
  pub each_next : (f : ℕ → A) (n k : ℕ) → k < n → each f k (n - k) ≡ f k ∷ each f (k + 1) (n - (k + 1))
  unfolding each
  each_next f n k h = let e : n - k ≡ suc (n - suc k) = omega arith in rw (add-one k, e)

  pub each_none : (f : ℕ → A) (n k : ℕ) → n ≤ k → each f k (n - k) ≡ []
  unfolding each
  each_none f n k h = let e : n - k ≡ 0 = omega arith in rw e

  -- one number further on
  pub each_shift : (f g : ℕ → A) (at n : ℕ) → ((k : ℕ) → f (suc k) ≡ g k) → each f (suc at) n ≡ each g at n
  unfolding each
  each_shift f g at zero h = refl
  each_shift f g at (suc n) h = rw (h at, each_shift f g (suc at) n h)

  pub map_each : {B : Type 0} (g : A → B) (f : ℕ → A) (at n : ℕ) → map g (each f at n) ≡ each (λ i. g (f i)) at n
  unfolding each
  map_each g f at zero = refl
  map_each g f at (suc n) = ap (λ l. g (f at) ∷ l) (map_each g f (suc at) n)

  pub get_map : {B : Type 0} (f : A → B) (xs : List A) (k : ℕ) (a : A) → get_elem? xs k ≡ some a → get_elem? (map f xs) k ≡ some (f a)
  get_map f [] k a e = let z : ◌≡◌ {A = ℕ} 0 1 = cc in absurd (omega arith)
  get_map f (x ∷ xs) zero a e = cc
  get_map f (x ∷ xs) (suc k) a e = get_map f xs k a e

-- ---- relocations, there and back

five_on : (x₀ x₁ x₂ x₃ x₄ : ℕ) (xs : List ℕ) (k j : ℕ)
    → field relocation_stride (x₀ ∷ x₁ ∷ x₂ ∷ x₃ ∷ x₄ ∷ xs) (suc k) j ≡ field relocation_stride xs k j
five_on x₀ x₁ x₂ x₃ x₄ xs k j =
    let e : 5 * suc k + j ≡ suc (suc (suc (suc (suc (5 * k + j))))) = omega arith in
    ap (λ (i : ℕ). get_or (x₀ ∷ x₁ ∷ x₂ ∷ x₃ ∷ x₄ ∷ xs) i 0) e

relocation_on : (r : Relocation) (rs : List Relocation) (k : ℕ) → relocation_at (numbers_of (r ∷ rs)) (suc k) ≡ relocation_at (numbers_of rs) k
unfolding relocation_at numbers_of
relocation_on r rs k = simp (five_on r.place r.symbol r.kind r.bytes r.addend (numbers_of rs) k)

pub numbers_length : (rs : List Relocation) → length (numbers_of rs) ≡ 5 * length rs
unfolding numbers_of
numbers_length [] = refl
numbers_length (r ∷ rs) = omega (arith, numbers_length rs)

pub numbers_append : (rs ss : List Relocation) → numbers_of (rs ++ ss) ≡ numbers_of rs ++ numbers_of ss
unfolding numbers_of
numbers_append [] ss = refl
numbers_append (r ∷ rs) ss = rw (numbers_append rs ss)

relocations_each : (rs : List Relocation) → each (relocation_at (numbers_of rs)) 0 (length rs) ≡ rs
unfolding each relocation_at numbers_of
relocations_each [] = refl
relocations_each (r ∷ rs) =
    ap (λ (l : List Relocation). r ∷ l)
    (each_shift (relocation_at (numbers_of (r ∷ rs))) (relocation_at (numbers_of rs)) 0 (length rs) (relocation_on r rs) ∙ relocations_each rs)

pub relocations_back : (rs : List Relocation) → relocations_of (numbers_of rs) ≡ rs
unfolding relocations_of
relocations_back rs =
    let e : length (numbers_of rs) / 5 ≡ length rs = omega (arith, numbers_length rs) in
    rw e (relocations_each rs)

-- ---- tests

-- tests that are chained from the left: test k of them
abbrev pub chain : Bool → List Bool → Bool
chain a [] = a
chain a (b ∷ bs) = chain (a && b) bs

pub chained : (a : Bool) (bs : List Bool) (k : ℕ) → T (chain a bs) → T (get_or (a ∷ bs) k true)
chained a [] zero t = t
chained a [] (suc k) t = tt
chained a (b ∷ bs) zero t = (and_yes a b (chained (a && b) bs 0 t)).0
chained a (b ∷ bs) (suc zero) t = (and_yes a b (chained (a && b) bs 0 t)).1
chained a (b ∷ bs) (suc (suc k)) t = chained (a && b) bs (suc k) t

-- a test that a range passes, at one of its numbers
pub in_range : (test : ℕ → Bool) (at n k : ℕ) → T (all_in test at n) → k < n → T (test (at + k))
unfolding all_in all each
in_range test at zero k t h = absurd (omega arith)
in_range test at (suc n) zero t h =
    let e : at ≡ at + 0 = omega arith in
    subst (λ (i : ℕ). T (test i)) e (and_yes (test at) (all_in test (suc at) n) t).0
in_range test at (suc n) (suc k) t h =
    let e : suc at + k ≡ at + suc k = omega arith in
    subst (λ (i : ℕ). T (test i)) e (in_range test (suc at) n k (and_yes (test at) (all_in test (suc at) n) t).1 (omega arith))

pub at_each : (test : ℕ → Bool) (n k : ℕ) → T (all_in test 0 n) → k < n → T (test k)
at_each test n k t h = let e : 0 + k ≡ k = omega arith in rw e at (in_range test 0 n k t h)

-- ---- question 13: sums, parts of lists, symbols

sum_part : (f : ℕ → ℕ) (at n k : ℕ) → k < n → f (at + k) ≤ sum_of f at n
unfolding sum_of
sum_part f at zero k h = absurd (omega arith)
sum_part f at (suc n) zero h = let e : at + 0 ≡ at = omega arith in rw e (omega arith)
sum_part f at (suc n) (suc k) h =
    let e : at + suc k ≡ suc at + k = omega arith in
    rw e (omega (arith, sum_part f (suc at) n k (omega arith)))

pub part_of : (f : ℕ → ℕ) (n k : ℕ) → k < n → f k ≤ sum_of f 0 n
part_of f n k h = let e : 0 + k ≡ k = omega arith in rw e at (sum_part f 0 n k h)

pub within : (at n size : ℕ) → T (inside at n size) → at + n ≤ size
unfolding inside
within at n size t = leb→le (at + n) size t

pub symbol_small : (n : ℕ) → T (symbol_ok n) → n < 2 ^ 32
unfolding symbol_ok
symbol_small n t = ltb→lt n (2 ^ 32) (and_yes (leb 16 n) (ltb n (2 ^ 32)) t).1

-- ---- question 13: the ranges of a row's numbers

below : (b : Bool) (x n : ℕ) → 0 < n → T (ltb x (pick b n 1)) → x < n
unfolding pick
below true x n h t = ltb→lt x n t
below false x n h t = omega (arith, ltb→lt x 1 t)

second_low : (kind x : ℕ) → T (ltb x (second_operands kind)) → x < 2 ^ 32
unfolding second_operands pick
second_low kind x t = by (has_offset kind) (eqb kind 10) t
  where
    by : (a b : Bool) → T (ltb x (pick a (2 ^ 32) (pick b 65536 1))) → x < 2 ^ 32
    by true b t = ltb→lt x (2 ^ 32) t
    by false b t = omega (arith, below b x 65536 (omega arith) t)

second_register : (x : ℕ) → T (ltb x (second_operands 10)) → x < 65536
unfolding second_operands has_offset pick
second_register x t = ltb→lt x 65536 t

pub record RowNumbers (kind reg off : ℕ) : Type 0 where
  pub kind_low : kind ≤ 10
  pub reg_low : reg < 65536
  pub off_low : off < 2 ^ 32
  -- the second register of InRegister
  pub other_low : kind ≡ 10 → off < 65536

pub row_numbers : (kind reg off : ℕ) → T (row_ok kind reg off) → RowNumbers kind reg off
unfolding row_ok
row_numbers kind reg off t =
    let says = chained (leb kind 10) (ltb reg (pick (has_register kind) 65536 1) ∷ ltb off (second_operands kind) ∷ []) in
    record {
      kind_low = leb→le kind 10 (says 0 t);
      reg_low = below (has_register kind) reg 65536 (omega arith) (says 1 t);
      off_low = second_low kind off (says 2 t);
      other_low = λ e. second_register off (subst (λ (k : ℕ). T (ltb off (second_operands k))) e (says 2 t));
    }

-- ---- how long a list is

pub none_held : {A : Type 0} (xs : List A) → (0 < length xs → ⊥) → xs ≡ []
none_held [] n = refl
none_held (x ∷ xs) n = absurd (n (omega arith))

-- what a list has at a place stands inside it
pub found_inside : {A : Type 0} (xs : List A) (k : ℕ) {a : A} → get_elem? xs k ≡ some a → k < length xs
found_inside [] k e = let z : ◌≡◌ {A = ℕ} 0 1 = cc in absurd (omega arith)
found_inside (x ∷ xs) zero e = omega arith
found_inside (x ∷ xs) (suc k) e = omega (arith, found_inside xs k e)
