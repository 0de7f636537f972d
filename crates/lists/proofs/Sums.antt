-- A number of each record summed by a loop that stops once the sum passes the most of records.
use mathlib.Core.Path.{◌≡◌, refl, sym, ap, ◌∙◌}
use Prim.Native.Nat.{ℕ, suc, ◌+◌, ◌-◌, ◌*◌, ◌≤◌, ◌<◌}
use native.Mathlib.Omega.{arith}
use native.Mathlib.Nat.{mul-le-mul_left, mul-suc}
use native.Mathlib.Numerals.{add-one}
use mathlib.Core.Bool.{true, false}
use borrow.Author.Tests.{le-leb, lt-leb}
use lib.Dec.{leb}
use Rattle.format.specs.Lists.{sum_of, most_records}

-- at record k of n, the sum so far and that of what is left are the whole
pub record Summing (f : ℕ → ℕ) (n k sum : ℕ) : Type 0 where
  pub high : k ≤ n
  pub small : sum ≤ most_records
  pub rest : sum_of f 0 n ≡ sum + sum_of f k (n - k)

pub start : (f : ℕ → ℕ) (n : ℕ) → Summing f n 0 0
start f n = record { high = omega arith; small = omega arith; rest = let e : n ≡ n - 0 = omega arith in ap (sum_of f 0) e ∙ (omega arith) }

module _ {f : ℕ → ℕ} {n k sum x : ℕ} (s : Summing f n k sum) (h : k < n) (q : x ≡ f k) where
  here : sum_of f 0 n ≡ sum + x + sum_of f (k + 1) (n - (k + 1))
  unfolding sum_of
  here =
      let e : n - k ≡ suc (n - suc k) = omega arith in
      let m : sum_of f k (n - k) ≡ f k + sum_of f (k + 1) (n - (k + 1)) = rw (add-one k, e) refl in
      omega (arith, s.rest)

  pub turn : x ≤ most_records - sum → Summing f n (k + 1) (sum + x)
  turn l = record { high = omega arith; small = omega (arith, s.small); rest = here }

  pub stopped : most_records - sum < x → false ≡ leb (sum_of f 0 n) most_records
  stopped l = sym (lt-leb (sum_of f 0 n) most_records (omega (arith, here, s.small)))

pub ended : {f : ℕ → ℕ} {n k sum : ℕ} → Summing f n k sum → n ≤ k → true ≡ leb (sum_of f 0 n) most_records
unfolding sum_of
ended {f} {n} {k} s h =
    let e : n - k ≡ 0 = omega arith in
    let m : sum_of f k (n - k) ≡ 0 = rw e refl in
    sym (le-leb (sum_of f 0 n) most_records (omega (arith, s.rest, s.small)))

-- number j of a record lies in the list
pub within : (stride n k j size : ℕ) → k < n → j < stride → stride * n ≤ size → stride * k + j < size
within stride n k j size h l m =
    let e : stride * suc k ≤ stride * n = mul-le-mul_left stride h in
    omega (arith, mul-suc stride k)
