-- Sums that stop once they pass the most of records.
use mathlib.Core.Path.{◌≡◌, sym, ap, ◌∙◌}
use Prim.Native.Nat.{ℕ, suc, ◌+◌, ◌-◌, ◌≤◌, ◌<◌}
use native.Mathlib.Omega.{arith}
use lib.Dec.{leb}
use mathlib.Core.List.{List}
use Rattle.format.specs.Lists.{field, sum_of, most_records}
use Rattle.format.proofs.Choice.{if-le, if-gt, either, is_true, is_yes_lem}
use Rattle.arm64.specs.Lists.{function_stride, epilogue_stride}
use Rattle.arm64.specs.Writer.{codes_in}
use mathlib.Core.Bool.{true, ◌&&◌}
use lib.Dec.{T}
use mathlib.Core.Path.{subst}
use Rattle.format.specs.Lists.{count, inside, symbol_ok, all_in}
use Rattle.format.proofs.ListLaws.{in_range}
use native.Mathlib.Nat.{zero-add}
use Rattle.std.specs.Prelude.{Option, Some, None}
use Rattle.std.specs.Option.{is_some}
use Rattle.std.proofs.lemmas.Option.{none-some, same_Some}
use Rattle.std.proofs.lemmas.Bool.{and_parts}
use borrow.Author.Tests.{le-leb, lt-leb}
use Rattle.format.specs.Prelude.{pick}
use Rattle.lists.proofs.Answers.{reached}
use Rattle.arm64.specs.Writer.{codes_ok_in, epilogue_ok_at, function_ok_at}
use Rattle.arm64_lists.specs.Sums.{up_to}

pub up_low : (n : ℕ) → n ≤ most_records → Some n ≡ up_to n
unfolding up_to
up_low n h = rw (if-le n most_records)

pub up_high : (n : ℕ) → most_records < n → None ≡ up_to n
unfolding up_to
up_high n h = rw (if-gt n most_records)

pub up_some : {r : Option ℕ} {n m : ℕ} → r ≡ up_to n → r ≡ Some m → (m ≡ n) × (n ≤ most_records)
up_some {r} {n} {m} e s =
    either n most_records (λ l. (same_Some _ _ (sym s ∙ e ∙ sym (up_low n l)), l)) λ l. absurd (none-some _ (up_high n l ∙ sym e ∙ s))

pub up_none : {r : Option ℕ} {n : ℕ} → r ≡ up_to n → r ≡ None → most_records < n
up_none {r} {n} e s = either n most_records (λ l. absurd (none-some _ (sym s ∙ e ∙ sym (up_low n l)))) λ l. l

pub up_is : (n : ℕ) → is_some (up_to n) ≡ leb n most_records
unfolding up_to pick
up_is n = either n most_records (λ l. simp (le-leb n most_records l)) λ l. simp (lt-leb n most_records l)

sum_first : (f : ℕ → ℕ) (i m : ℕ) → i < m → sum_of f i (m - i) ≡ f i + sum_of f (i + 1) (m - (i + 1))
unfolding sum_of
sum_first f i m h =
    let e : m - i ≡ suc (m - (i + 1)) = omega arith in
    let g : suc i ≡ i + 1 = omega arith in ap (sum_of f i) e ∙ ap (λ (k : ℕ). f i + sum_of f k (m - (i + 1))) g

sum_none : (f : ℕ → ℕ) (i m : ℕ) → m ≤ i → sum_of f i (m - i) ≡ 0
unfolding sum_of
sum_none f i m h = let e : m - i ≡ 0 = omega arith in ap (sum_of f i) e

pub record Adding (f : ℕ → ℕ) (at n sum i total : ℕ) : Type 0 where
  pub low : at ≤ i
  pub small : total ≤ most_records
  pub rest : sum + sum_of f at n ≡ total + sum_of f i (at + n - i)

pub adding : (f : ℕ → ℕ) (at n sum : ℕ) → sum ≤ most_records → Adding f at n sum at sum
adding f at n sum h =
    let e : n ≡ at + n - at = omega arith in record { low = omega arith; small = h; rest = ap (λ (k : ℕ). sum + sum_of f at k) e }

module _ {f : ℕ → ℕ} {at n sum i total : ℕ} {r : Option ℕ} (a : Adding f at n sum i total) (h : i < at + n) (e : r ≡ up_to (total + f i)) where
  pub add_turn : {t : ℕ} → r ≡ Some t → Adding f at n sum (i + 1) t
  add_turn {t} s =
      let w = up_some e s in
      record {
        low = omega (arith, a.low);
        small = omega (arith, w.0, w.1);
        rest = omega (arith, a.rest, sum_first f i (at + n) h, w.0);
      }

  pub add_stopped : r ≡ None → None ≡ up_to (sum + sum_of f at n)
  add_stopped s = up_high (sum + sum_of f at n) (omega (arith, a.rest, sum_first f i (at + n) h, up_none e s))

pub add_ended : {f : ℕ → ℕ} {at n sum i total : ℕ} → Adding f at n sum i total → at + n ≤ i → Some total ≡ up_to (sum + sum_of f at n)
add_ended {f} {at} {n} {sum} {i} {total} a h =
    let e : total ≡ sum + sum_of f at n = omega (arith, a.rest, sum_none f i (at + n) h) in
    ap Some e ∙ up_low (sum + sum_of f at n) (omega (arith, a.small, e))

module _ (fs es : List ℕ) (k sum : ℕ) where
  pub function_over : {r : Option ℕ} → r ≡ up_to (sum + field function_stride fs k 3) → r ≡ None → None ≡ up_to (sum + codes_in fs es k)
  unfolding codes_in
  function_over e s = up_high _ (omega (arith, up_none e s))

  pub function_sum : {t : ℕ} → t ≡ sum + field function_stride fs k 3
      → up_to (t + sum_of (λ i. field epilogue_stride es i 2) (field function_stride fs k 4) (field function_stride fs k 5)) ≡ up_to (sum + codes_in fs es k)
  unfolding codes_in
  function_sum {t} g =
      let e : t + sum_of (λ i. field epilogue_stride es i 2) (field function_stride fs k 4) (field function_stride fs k 5)
      ≡ sum + (field function_stride fs k 3 + sum_of (λ i. field epilogue_stride es i 2) (field function_stride fs k 4) (field function_stride fs k 5)) = omega (arith, g) in ap up_to e

-- ---- the ranges of functions that pass

module _ (fs es cs : List ℕ) where
  one_range : (k : ℕ) → function_ok_at fs es cs k ≡ true → field function_stride fs k 4 + field function_stride fs k 5 ≤ count epilogue_stride es
  unfolding function_ok_at
  one_range k e =
      let f : ℕ → ℕ = λ j. field function_stride fs k j in
      let p = and_parts (symbol_ok (f 0) && codes_ok_in cs (f 2) (f 3) && inside (f 4) (f 5) (count epilogue_stride es)) (all_in (epilogue_ok_at es cs) (f 4) (f 5)) e in
      let q = and_parts (symbol_ok (f 0) && codes_ok_in cs (f 2) (f 3)) (inside (f 4) (f 5) (count epilogue_stride es)) p.0 in
      reached (f 4) (f 5) (count epilogue_stride es) q.1

  pub ranges : (n : ℕ) → all_in (function_ok_at fs es cs) 0 n ≡ true → (k : ℕ) → k < n
      → field function_stride fs k 4 + field function_stride fs k 5 ≤ count epilogue_stride es
  ranges n e k h =
      one_range k
      (is_true (function_ok_at fs es cs k)
      (subst (λ (i : ℕ). T (function_ok_at fs es cs i)) (zero-add k) (in_range (function_ok_at fs es cs) 0 n k (is_yes_lem e) h)))
