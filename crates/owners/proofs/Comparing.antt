-- Two functions' headers, compared part by part and their leading rows one by one.
use mathlib.Core.Path.{◌≡◌, refl, sym, ap, ◌∙◌}
use Prim.Native.Nat.{ℕ, suc, ◌+◌, ◌≤◌, ◌<◌}
use native.Mathlib.Omega.{arith}
use native.Mathlib.Numerals.{add-one}
use mathlib.Core.Bool.{Bool, true, false, not, ◌&&◌, beq}
use mathlib.Core.List.{List, [], ◌∷◌}
use borrow.Author.Tests.{not-true, not-false}
use lib.Dec.{T}
use lib.ListN.{length, drop, get_or, drop_of_length-le}
use lib.Seq.{drop-cons}
use Rattle.format.specs.declared.Machine.{Machine}
use Rattle.format.specs.declared.Section.{Section}
use Rattle.format.specs.declared.Section.TheVariants.{Elf, Debug}
use Rattle.format.specs.declared.Row.{Row}
use Rattle.format.specs.declared.Row.TheVariants.{RememberState}
use Rattle.format.specs.Lists.{field, function_stride}
use Rattle.format.specs.Headers.{key_of, same_kind, same_rows, same_key}
use Rattle.format.proofs.SameKey.{same_rows_lem}
use Rattle.lists.specs.declared.Extent.{Extent}
use Rattle.lists.specs.Extents.{extent_at, meant}
use Rattle.header_keys.specs.Functions.{without, taken_in, key_in, RowsReady}
use Rattle.header_keys.specs.Kinds.{kind_in}
use Rattle.header_keys.proofs.KindMeans.{kind_means}
use Rattle.header_keys.specs.Inputs.{Inputs, extent_in}
use Rattle.owners.specs.Owners.{leading_in, same_at}
use Rattle.owners.proofs.Finding.{shares}

-- a function's rows are those of its record, whatever the section takes
pub rows_taken : (s : Section) (fs rows : List ℕ) (k : ℕ) (e : Extent) → e ≡ taken_in s (extent_at fs k)
    → RowsReady rows (field function_stride fs k 2) (field function_stride fs k 3) → RowsReady rows e.rows_at e.rows
unfolding taken_in without extent_at
rows_taken Elf fs rows k e q r = rw q r
rows_taken Debug fs rows k e q r = rw q r

-- ---- rows

-- before row i of n, two lists of n rows are the same
pub record Comparing (xs ys : List Row) (n i : ℕ) : Type 0 where
  pub high : i ≤ n
  pub first_count : n ≡ length xs
  pub second_count : n ≡ length ys
  pub rest : same_rows xs ys ≡ same_rows (drop i xs) (drop i ys)

pub start : {xs ys : List Row} {n : ℕ} → n ≡ length xs → n ≡ length ys → Comparing xs ys n 0
start p q = record { high = omega arith; first_count = p; second_count = q; rest = refl }

module _ {xs ys : List Row} {n i : ℕ} (c : Comparing xs ys n i) where
  module _ {r : Bool} (h : i < n) (e : r ≡ same_at xs ys i) where
    here : same_rows xs ys ≡ r && same_rows (drop (i + 1) xs) (drop (i + 1) ys)
    unfolding same_rows same_at
    here =
        let p : drop i xs ≡ get_or xs i RememberState ∷ drop (suc i) xs = drop-cons xs i RememberState (omega (arith, c.first_count)) in
        let q : drop i ys ≡ get_or ys i RememberState ∷ drop (suc i) ys = drop-cons ys i RememberState (omega (arith, c.second_count)) in
        c.rest ∙ rw (p, q, add-one i, e) refl

    pub turn : not r ≡ false → Comparing xs ys n (i + 1)
    turn t = record { high = omega arith; first_count = c.first_count; second_count = c.second_count; rest = here ∙ simp (not-false r t) }

    pub differ : not r ≡ true → same_rows xs ys ≡ false
    differ t = here ∙ simp (not-true r t)

  pub ended : n ≤ i → same_rows xs ys ≡ true
  unfolding same_rows
  ended h =
      let p : drop i xs ≡ [] = drop_of_length-le xs {i = i} (omega (arith, c.first_count)) in
      let q : drop i ys ≡ [] = drop_of_length-le ys {i = i} (omega (arith, c.second_count)) in
      c.rest ∙ rw (p, q) refl

never : (b : Bool) → (T b → ⊥) → b ≡ false
never true f = absurd (f tt)
never false f = refl

uneven : (xs ys : List Row) → (length xs ≡ length ys → ⊥) → same_rows xs ys ≡ false
uneven xs ys h = never (same_rows xs ys) (λ t. h (ap length (same_rows_lem xs ys t)))

-- ---- keys

key_parts : (m : Machine) (a b : Extent) (rows : List ℕ)
    → same_key (key_in m a rows) (key_in m b rows) ≡ (same_kind (kind_in a) (kind_in b) && beq a.signal b.signal) && same_rows (leading_in m a rows) (leading_in m b rows)
unfolding same_key key_of meant
key_parts m a b rows = rw (kind_means m a rows, kind_means m b rows)

-- functions j and k, as the section takes them, were asked for their kinds and signal marks
pub record Asked (x : Inputs) (j k : ℕ) (a b : Extent) (r : Bool) : Type 0 where
  pub first : a ≡ extent_in x j
  pub second : b ≡ extent_in x k
  pub answer : r ≡ same_kind (kind_in a) (kind_in b) && beq a.signal b.signal

module _ {x : Inputs} {j k : ℕ} {a b : Extent} {r : Bool} (q : Asked x j k a b r) where
  by_parts : shares x k j ≡ r && same_rows (leading_in x.machine a x.rows) (leading_in x.machine b x.rows)
  by_parts = rw (← q.first, ← q.second, q.answer) (key_parts x.machine a b x.rows)

  pub unlike : not r ≡ true → shares x k j ≡ false
  unlike t = by_parts ∙ simp (not-true r t)

  module _ (t : not r ≡ false) where
    pub by_rows_lem : {d : Bool} → same_rows (leading_in x.machine a x.rows) (leading_in x.machine b x.rows) ≡ d → shares x k j ≡ d
    by_rows_lem f = by_parts ∙ simp (not-false r t, f)

    pub by_counts : {l n : ℕ} → l ≡ length (leading_in x.machine a x.rows) → n ≡ length (leading_in x.machine b x.rows) → (l ≡ n → ⊥) → shares x k j ≡ false
    by_counts p o h = by_rows_lem (uneven (leading_in x.machine a x.rows) (leading_in x.machine b x.rows) (λ e. h (p ∙ e ∙ sym o)))
